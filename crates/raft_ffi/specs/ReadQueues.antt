-- Files that readers have read, up to where the last one of a queue can't be read.
use Rattle.std.specs.Prelude.{◌≡◌, ◌⊎◌, ℕ, ◌+◌, List, [], ◌∷◌, ◌++◌, length, map, codes, Option, Some, None}
use Rattle.raft_base.specs.Corruption.{IsCorruption}
use Rattle.raft_base.specs.declared.errors.Error.{Error}
use Rattle.raft_base.specs.declared.pipe_log.LogFileContext.{LogFileContext}
use Rattle.raft_base.specs.declared.pipe_log.LogQueue.{LogQueue}
use Rattle.raft_base.specs.declared.pipe_log.LogQueue.TheVariants.{Append, Rewrite}
use Rattle.raft_base.specs.declared.pipe_log.Version.{Version}
use Rattle.raft_records.specs.FilePart.{AreBatchesUpTo, part_of}
use Rattle.raft_files.specs.Asks.{Ask, NumberedBytes}
use Rattle.raft_reading.specs.declared.queue_files.FileSize.{FileSize}
use Rattle.raft_recover.specs.Files.{whole_file}
use Rattle.raft_engine.specs.CutTails.{IsRecoveredOf}
use Rattle.raft_engine.specs.FoundQueues.{IsMissingOf, left_by}
use Rattle.raft_engine.specs.KeptEngine.{KeptEngine}
use Rattle.raft_engine.specs.Opened.{IsOpened}
use Rattle.raft_engine.specs.ReadQueues.{HaveBothRead, HaveBothReadExactly}
use Rattle.raft_engine.specs.SoundBlocks.{IsPartSound}
use Rattle.raft_engine.specs.Unopened.{AreBothAccepted, AreUngroupedAs, IsUnopened}
use Rattle.raft_engine.specs.declared.missing.Missing.{Missing}
use Rattle.raft_engine.specs.declared.recovered.CutTail.{CutTail}
use Rattle.raft_engine.specs.declared.recovered.Recovered.{Recovered}
use Rattle.raft_engine.specs.declared.recovery_mode.RecoveryMode.{RecoveryMode}
use Rattle.raft_opening.specs.ReadOnce.{IsStandingFor}
use Rattle.raft_opening.specs.SizedFiles.{IsSizedQueue, IsTailAccepted, size_of}
use Rattle.raft_opening.specs.declared.sized_files.SizedQueue.{SizedQueue}
use Rattle.raft_orders.specs.Refusals.{HandedFails}
use Rattle.raft_ffi.specs.Readers.{BatchesRead}
use Rattle.raft_ffi.specs.declared.read_queue.Size.{Size}

-- the number and the length of a file, as the reading of files takes them
abbrev pub size_in : Size → FileSize
size_in size = record { seq = size.seq; len = size.len }

-- these bytes of a file of this length, up to those of its end, are batches, whose entry blocks are sound if it is one of a rewrite file
pub record IsFrontRead (file : LogFileContext) (len : ℕ) (rest front : List ℕ) : Type 0 where
  pub long : length front + length rest ≡ len
  pub batches : AreBatchesUpTo (part_of file 0 (front ++ rest)) (length front)
  pub sound : IsPartSound (part_of file 0 (front ++ rest))

-- the tail behind this front of a file begins there, if it has one
abbrev pub BeginsBehind : List ℕ → List ℕ → Option CutTail → Type 0
BeginsBehind front rest None = rest ≡ []
BeginsBehind front rest (Some tail) = tail.offset ≡ length front

-- and a mode accepts it
pub record IsTailBehind (mode : RecoveryMode) (file : LogFileContext) (rest front : List ℕ) (tail : Option CutTail) : Type 0 where
  pub accepted : IsTailAccepted mode (part_of file 0 (front ++ rest)) tail
  pub begins : BeginsBehind front rest tail

-- there is no file, and a reader stands for no batch
pub record IsNoneRead (queue : LogQueue) (version : Version) (read : BatchesRead) (files : List NumberedBytes) : Type 0 where
  pub none : files ≡ []
  pub standing : IsStandingFor queue version HaveBothRead HaveBothReadExactly [] read

-- the last one of these files ends in these bytes, behind batches; a reader stands for the batches of all files up to there
pub record IsLastReadTo (queue : LogQueue) (version : Version) (rest : List ℕ) (read : BatchesRead) (files : List NumberedBytes) : Type 0 where
  pub closed : List NumberedBytes
  pub seq : ℕ
  pub front : List ℕ
  pub split : files ≡ closed ++ (seq, front ++ rest) ∷ []
  pub batches : AreBatchesUpTo (whole_file queue version (seq, front ++ rest)) (length front)
  pub sound : IsPartSound (whole_file queue version (seq, front ++ rest))
  pub standing : IsStandingFor queue version HaveBothRead HaveBothReadExactly (closed ++ (seq, front) ∷ []) read

-- either
abbrev pub IsReadTo : LogQueue → Version → List ℕ → BatchesRead → List NumberedBytes → Type 0
IsReadTo queue version rest read files = IsNoneRead queue version read files ⊎ IsLastReadTo queue version rest read files

-- the same of files of these sizes
pub record IsQueueReadAs (queue : LogQueue) (version : Version) (sizes : List Size) (rest : List ℕ) (read : BatchesRead) (files : List NumberedBytes) : Type 0 where
  pub sizes_are : map size_in sizes ≡ map size_of files
  pub up_to : IsReadTo queue version rest read files

-- a batch can be read where a reader has stopped, and the refusal says so
abbrev pub IsReadOnAs : Error → Type 0
IsReadOnAs e = IsCorruption (codes "a batch can be read where the reading of the last file ended") e

-- this is missing of files that a mode accepts, and a reader stands for the batches of those that are there once it was asked
pub record IsLeftRead (mode : RecoveryMode) (queue : LogQueue) (version : Version) (files : List NumberedBytes) (read : BatchesRead) (missing : Missing) : Type 0 where
  pub missing_of : IsMissingOf mode queue version files missing
  pub standing : IsStandingFor queue version HaveBothRead HaveBothReadExactly (left_by missing files) read

-- the same, with what is known of the files
pub record IsReadyAs (mode : RecoveryMode) (queue : LogQueue) (version : Version) (files : List NumberedBytes) (read : BatchesRead) (sized : SizedQueue) : Type 0 where
  pub sized_of : IsSizedQueue mode queue version files sized
  pub standing : IsStandingFor queue version HaveBothRead HaveBothReadExactly (left_by sized.ready.missing files) read

-- ---- both queues

-- the files of both queues, of these sizes, as readers have read them, and what stands behind
pub record AreBothReadAs (version : Version) (append : List Size) (append_rest : List ℕ) (rewrite : List Size) (rewrite_rest : List ℕ) (appended rewritten : BatchesRead) (append_files rewrite_files : List NumberedBytes) : Type 0 where
  pub of_append : IsQueueReadAs Append version append append_rest appended append_files
  pub of_rewrite : IsQueueReadAs Rewrite version rewrite rewrite_rest rewritten rewrite_files

-- there are such files
abbrev pub AreSomeReadAs : Version → List Size → List ℕ → List Size → List ℕ → BatchesRead → BatchesRead → Type 0
AreSomeReadAs version append append_rest rewrite rewrite_rest appended rewritten =
    (append_files : List NumberedBytes) × (rewrite_files : List NumberedBytes) × AreBothReadAs version append append_rest rewrite rewrite_rest appended rewritten append_files rewrite_files

-- an engine was opened over some such files, which the mode accepts, and this was cut off from them
pub record IsOpenedAs (mode : RecoveryMode) (version : Version) (append : List Size) (append_rest : List ℕ) (rewrite : List Size) (rewrite_rest : List ℕ) (appended rewritten : BatchesRead) (engine : KeptEngine) (recovered : Recovered) : Type 0 where
  pub append_files : List NumberedBytes
  pub rewrite_files : List NumberedBytes
  pub read : AreBothReadAs version append append_rest rewrite rewrite_rest appended rewritten append_files rewrite_files
  pub accepted : AreBothAccepted mode version append_files rewrite_files
  pub opened : IsOpened version append_files rewrite_files engine
  pub told : IsRecoveredOf version append_files rewrite_files recovered

-- why some such files aren't opened, whatever was ordered by then; an order fails for want of memory or of numbers
pub record IsUnopenedAs (mode : RecoveryMode) (version : Version) (append : List Size) (append_rest : List ℕ) (rewrite : List Size) (rewrite_rest : List ℕ) (appended rewritten : BatchesRead) (e : Error) : Type 0 where
  pub append_files : List NumberedBytes
  pub rewrite_files : List NumberedBytes
  pub read : AreBothReadAs version append append_rest rewrite rewrite_rest appended rewritten append_files rewrite_files
  pub asks : List Ask
  pub why : IsUnopened (AreUngroupedAs version) HandedFails mode version append_files rewrite_files asks e ⊎ IsReadOnAs e
