-- Found files of which reads gave each byte once: what was read of them, and what stands for it.
use Rattle.std.specs.Prelude.{◌≡◌, ◌⊎◌, ℕ, List, [], ◌∷◌, ◌++◌, length, take, codes, Option, Some, None}
use Rattle.raft_base.specs.Corruption.{IsCorruption}
use Rattle.raft_base.specs.declared.errors.Error.{Error}
use Rattle.raft_base.specs.declared.pipe_log.FileId.{FileId}
use Rattle.raft_base.specs.declared.pipe_log.LogFileContext.{LogFileContext}
use Rattle.raft_base.specs.declared.pipe_log.LogQueue.{LogQueue}
use Rattle.raft_base.specs.declared.pipe_log.LogQueue.TheVariants.{Append, Rewrite}
use Rattle.raft_base.specs.declared.pipe_log.Version.{Version}
use Rattle.raft_records.specs.FilePart.{part_of}
use Rattle.raft_history.specs.Batches.{Event}
use Rattle.raft_history.specs.Histories.{Apart, IsSmall}
use Rattle.raft_files.specs.Asks.{Ask, NumberedBytes}
use Rattle.raft_replay.specs.Replays.{HasReplayed}
use Rattle.raft_replay.specs.Segments.{HoldsFrom}
use Rattle.raft_reading.specs.FilesRead.{AreRead}
use Rattle.raft_reading.specs.IoErrors.{IoError}
use Rattle.raft_reading.specs.QueueRead.{AreAllRead, file_of}
use Rattle.raft_reading.specs.declared.queue_files.FileSize.{FileSize}
use Rattle.raft_recover.specs.Files.{FilesHold, whole_file}
use Rattle.raft_engine_prefixes.specs.Done.{AreConsecutive, numbers}
use Rattle.raft_engine.specs.CutTails.{IsRecoveredOf}
use Rattle.raft_engine.specs.DamagedBatches.{AreDamagedBatches, AreDamagedTold}
use Rattle.raft_engine.specs.FoundQueues.{IsMissingOf, left_by}
use Rattle.raft_engine.specs.KeptEngine.{KeptEngine}
use Rattle.raft_engine.specs.Opened.{IsOpened}
use Rattle.raft_engine.specs.OpeningAsks.{Failures}
use Rattle.raft_engine.specs.ReadFound.{AreReadFound}
use Rattle.raft_engine.specs.Unopened.{AreBothAccepted, AreUnrecoveredAs, IsHalfOpened, IsOpeningRefusal}
use Rattle.raft_engine.specs.declared.reading.ReadFiles.{ReadFiles}
use Rattle.raft_engine.specs.declared.reading.Reading.{Reading}
use Rattle.raft_engine.specs.declared.recovered.CutTail.{CutTail}
use Rattle.raft_engine.specs.declared.recovered.DamagedBatch.{DamagedBatch}
use Rattle.raft_engine.specs.declared.recovered.Recovered.{Recovered}
use Rattle.raft_engine.specs.declared.recovery_mode.RecoveryMode.{RecoveryMode}
use Rattle.raft_opening.specs.SizedFiles.{AreBothSized, IsReadRefusal, IsSizedQueue, IsTailAccepted}
use Rattle.raft_opening.specs.declared.last_file.LastRead.{LastRead}
use Rattle.raft_opening.specs.declared.queue_read.QueueRead.{QueueRead}
use Rattle.raft_opening.specs.declared.queue_read.QueueReplayed.{QueueReplayed}

-- which bytes reads of a file may give, and how they may fail, by the file and the offset
abbrev pub Giving : Type 1
Giving = FileId → ℕ → List ℕ → Type 0

-- ---- a queue

-- the bytes of a file up to its tail
abbrev pub before_tail : Option CutTail → List ℕ → List ℕ
before_tail None bytes = bytes
before_tail (Some tail) bytes = take tail.offset bytes

-- reads gave all bytes of a file of this length, which a mode accepts, and the machine has replayed those up to this tail; these are its damaged batches
pub record IsLastReplayed {M : Type 0} (Gives : ℕ → List ℕ → Type 0) (mode : RecoveryMode) (file : LogFileContext) (len : ℕ) (stands_for stands_exactly : M → List Event → Type 0) (old new : M) (last : LastRead) : Type 0 where
  pub bytes : List ℕ
  pub read : AreRead Gives bytes
  pub whole : length bytes ≡ len
  pub accepted : IsTailAccepted mode (part_of file 0 bytes) last.tail
  pub damaged : AreDamagedBatches (part_of file 0 bytes) last.damaged.items
  pub replayed : HasReplayed (HoldsFrom (part_of file 0 (before_tail last.tail bytes)) 0) stands_for stands_exactly old new

-- a machine stands for the batches of these files, and exactly where effects are apart
pub record IsStandingFor {M : Type 0} (queue : LogQueue) (version : Version) (stands_for stands_exactly : M → List Event → Type 0) (files : List NumberedBytes) (machine : M) : Type 0 where
  pub history : List Event
  pub held : FilesHold queue version files history
  pub stands : IsSmall history → stands_for machine history
  pub exact : IsSmall history → Apart history → stands_exactly machine history

-- reads gave all bytes of files of these sizes and of a last one of this size, which a mode accepts, and the machine stands for the batches of them, of the last one up to this tail; these are the damaged batches of that one
pub record AreClosedAndLastRead {M : Type 0} (Gives : Giving) (mode : RecoveryMode) (queue : LogQueue) (version : Version) (closed : List FileSize) (last : FileSize) (stands_for stands_exactly : M → List Event → Type 0) (read : M × LastRead) : Type 0 where
  pub files : List NumberedBytes
  pub files_read : AreAllRead Gives queue closed files
  pub bytes : List ℕ
  pub bytes_read : AreRead (Gives (file_of queue last.seq)) bytes
  pub whole : length bytes ≡ last.len
  pub accepted : IsTailAccepted mode (whole_file queue version (last.seq, bytes)) read.1.tail
  pub damaged : AreDamagedBatches (whole_file queue version (last.seq, bytes)) read.1.damaged.items
  pub standing : IsStandingFor queue version stands_for stands_exactly (files ++ (last.seq, before_tail read.1.tail bytes) ∷ []) read.0

-- these are the damaged batches of the last file of a queue; none where there is no file
abbrev pub AreDamagedLast : LogQueue → Version → List NumberedBytes → List DamagedBatch → Type 0
AreDamagedLast queue version files batches =
    (files ≡ [] → batches ≡ [])
    × ((closed : List NumberedBytes) (last : NumberedBytes) → files ≡ closed ++ last ∷ [] → AreDamagedBatches (whole_file queue version last) batches)

-- reads gave all bytes of files of these sizes; if their numbers are consecutive a mode accepts them, this is missing of them, and the machine stands for those that are there once that was asked; these are the damaged batches of the last one
pub record AreReplayed {M : Type 0} (Gives : Giving) (mode : RecoveryMode) (queue : LogQueue) (version : Version) (sizes : List FileSize) (stands_for stands_exactly : M → List Event → Type 0) (read : QueueReplayed M) : Type 0 where
  pub files : List NumberedBytes
  pub files_read : AreAllRead Gives queue sizes files
  pub missing : AreConsecutive (numbers files) → IsMissingOf mode queue version files read.missing
  pub damaged : AreDamagedLast queue version files read.damaged.items
  pub standing : IsStandingFor queue version stands_for stands_exactly (left_by read.missing files) read.machine

-- the same, with what is known of the files
pub record IsQueueRead {M : Type 0} (Gives : Giving) (mode : RecoveryMode) (queue : LogQueue) (version : Version) (sizes : List FileSize) (stands_for stands_exactly : M → List Event → Type 0) (read : QueueRead M) : Type 0 where
  pub files : List NumberedBytes
  pub files_read : AreAllRead Gives queue sizes files
  pub sized : IsSizedQueue mode queue version files read.sized
  pub damaged : AreDamagedLast queue version files read.damaged.items
  pub standing : IsStandingFor queue version stands_for stands_exactly (left_by read.sized.ready.missing files) read.machine

-- ---- both queues

-- reads gave all bytes of files of these sizes
pub record AreBothRead (Gives : Giving) (append rewrite : List FileSize) (append_files rewrite_files : List NumberedBytes) : Type 0 where
  pub of_append : AreAllRead Gives Append append append_files
  pub of_rewrite : AreAllRead Gives Rewrite rewrite rewrite_files

-- these are the bytes that reads gave, which a mode accepts, this is what a reading of them gives, and these are the damaged batches of the last append file
pub record IsReadingOver (Gives : Giving) (mode : RecoveryMode) (version : Version) (append rewrite : List FileSize) (files : ReadFiles) (append_files rewrite_files : List NumberedBytes) : Type 0 where
  pub given : AreBothRead Gives append rewrite append_files rewrite_files
  pub accepted : AreBothAccepted mode version append_files rewrite_files
  pub read : AreReadFound version append_files rewrite_files files.reading
  pub damaged : AreDamagedTold version append_files files.damaged.items

-- the reading of files of these sizes, by the bytes that reads gave, each of them once
abbrev pub IsReadingOf : Giving → RecoveryMode → Version → List FileSize → List FileSize → ReadFiles → Type 0
IsReadingOf Gives mode version append rewrite files =
    (append_files : List NumberedBytes) × (rewrite_files : List NumberedBytes) × IsReadingOver Gives mode version append rewrite files append_files rewrite_files

-- files that a first reading refused, and of which the next one gives what they hold, in a mode that accepts them: so they changed meanwhile, or a read failed
pub record AreChangedAs (mode : RecoveryMode) (version : Version) (append_files rewrite_files : List NumberedBytes) (e : Error) : Type 0 where
  pub accepted : AreBothAccepted mode version append_files rewrite_files
  pub reading : Reading
  pub read : AreReadFound version append_files rewrite_files reading
  pub told : IsCorruption (codes "the files changed while they were read, or a read failed") e

-- why files of these sizes aren't read: whichever they are, if reads give only bytes that stand there, a read failed, or the files are refused; or they changed
abbrev pub AreUnreadAs : Giving → (FileId → ℕ → IoError → Type 0) → RecoveryMode → Version → ℕ → List FileSize → List FileSize → Error → Type 0
AreUnreadAs Gives Fails mode version workers append rewrite e =
    (append_files rewrite_files : List NumberedBytes) → AreBothSized Gives append rewrite append_files rewrite_files
    → IsReadRefusal Gives Fails e ⊎ IsOpeningRefusal (AreUnrecoveredAs version workers) mode version append_files rewrite_files e
    ⊎ AreChangedAs mode version append_files rewrite_files e

-- an engine was opened over the bytes that reads gave of files of these sizes, which a mode accepts; this was cut off from them, and these batches of the last append file are damaged
pub record IsOpenedOver (Gives : Giving) (mode : RecoveryMode) (version : Version) (append rewrite : List FileSize) (engine : KeptEngine) (recovered : Recovered) (batches : List DamagedBatch) : Type 0 where
  pub append_files : List NumberedBytes
  pub rewrite_files : List NumberedBytes
  pub given : AreBothRead Gives append rewrite append_files rewrite_files
  pub accepted : AreBothAccepted mode version append_files rewrite_files
  pub opened : IsOpened version append_files rewrite_files engine
  pub told : IsRecoveredOf version append_files rewrite_files recovered
  pub damaged : AreDamagedTold version append_files batches

-- these bytes were read, and can be made ready in the mode, but an ask failed, and the files are half opened
pub record IsHalfOpenedOver (Gives : Giving) (MayFail : Failures) (mode : RecoveryMode) (version : Version) (append rewrite : List FileSize) (asks : List Ask) (e : Error) : Type 0 where
  pub append_files : List NumberedBytes
  pub rewrite_files : List NumberedBytes
  pub given : AreBothRead Gives append rewrite append_files rewrite_files
  pub accepted : AreBothAccepted mode version append_files rewrite_files
  pub half : IsHalfOpened MayFail version append_files rewrite_files asks e
