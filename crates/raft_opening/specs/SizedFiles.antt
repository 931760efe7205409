-- Found files by their numbers and lengths, whose bytes reads give.
use Rattle.std.specs.Prelude.{◌≡◌, ◌⊎◌, ◌<◌, ◌≤◌, ◌^◌, ℕ, List, [], ◌∷◌, ◌++◌, length, map, drop, Option}
use Rattle.raft_base.specs.declared.errors.Error.{Error}
use Rattle.raft_base.specs.declared.pipe_log.FileId.{FileId}
use Rattle.raft_base.specs.declared.pipe_log.LogQueue.{LogQueue}
use Rattle.raft_base.specs.declared.pipe_log.LogQueue.TheVariants.{Append, Rewrite}
use Rattle.raft_base.specs.declared.pipe_log.Version.{Version}
use Rattle.raft_records.specs.FilePart.{Part}
use Rattle.raft_files.specs.Asks.{NumberedBytes}
use Rattle.raft_files.specs.Disk.{cut_last}
use Rattle.raft_replay.specs.Cuts.{rest_of}
use Rattle.raft_reading.specs.FilesRead.{IsReadFault}
use Rattle.raft_reading.specs.IoErrors.{IoError}
use Rattle.raft_reading.specs.QueueRead.{file_of}
use Rattle.raft_reading.specs.declared.queue_files.FileSize.{FileSize}
use Rattle.raft_engine.specs.CutTails.{IsTornAs}
use Rattle.raft_engine.specs.FoundFiles.{IsApartAs, IsOfOther, IsOtherAs, IsTailRefused, IsTailRefusedAs, StandTogether}
use Rattle.raft_engine.specs.FoundQueues.{IsMissingOf, left_by}
use Rattle.raft_engine.specs.QueueFilesOf.{AreOf}
use Rattle.raft_engine.specs.SoundBlocks.{IsPartSound, IsUnsoundAs}
use Rattle.raft_engine.specs.declared.missing.Missing.{Missing}
use Rattle.raft_engine.specs.declared.missing.Missing.TheVariants.{Nothing, FirstFile, Cut}
use Rattle.raft_engine.specs.declared.queue_files.QueueFiles.{QueueFiles}
use Rattle.raft_engine.specs.declared.recovered.CutTail.{CutTail}
use Rattle.raft_engine.specs.declared.recovery_mode.RecoveryMode.{RecoveryMode}
use Rattle.raft_opening.specs.declared.sized_files.SizedQueue.{SizedQueue}

-- ---- what is known of the files

-- reads of a file, at whatever offset, give only bytes that stand there
abbrev pub GivesOnly : (ℕ → List ℕ → Type 0) → List ℕ → Type 0
GivesOnly Gives bytes = (offset : ℕ) (given : List ℕ) → Gives offset given → (rest : List ℕ) × (drop offset bytes ≡ given ++ rest)

-- so it is of each file of a queue
abbrev pub GiveOnly : (FileId → ℕ → List ℕ → Type 0) → LogQueue → List NumberedBytes → Type 0
GiveOnly Gives queue [] = Unit {0}
GiveOnly Gives queue (file ∷ files) = GivesOnly (Gives (file_of queue file.0)) file.1 × GiveOnly Gives queue files

-- the number and the length of a file
abbrev pub size_of : NumberedBytes → FileSize
size_of file = record { seq = file.0; len = length file.1 }

-- the files of a queue have these numbers and lengths, and reads of them give only their bytes
pub record AreSized (Gives : FileId → ℕ → List ℕ → Type 0) (queue : LogQueue) (sizes : List FileSize) (files : List NumberedBytes) : Type 0 where
  pub are : sizes ≡ map size_of files
  pub only : GiveOnly Gives queue files

-- so it is of both queues
pub record AreBothSized (Gives : FileId → ℕ → List ℕ → Type 0) (append rewrite : List FileSize) (append_files rewrite_files : List NumberedBytes) : Type 0 where
  pub of_append : AreSized Gives Append append append_files
  pub of_rewrite : AreSized Gives Rewrite rewrite rewrite_files

-- so many workers may read the files of these sizes
abbrev pub AreFewSized : ℕ → List FileSize → List FileSize → Type 0
AreFewSized workers append rewrite = (0 < workers) × (workers ≤ 256) × (length append < 2 ^ 62) × (length rewrite < 2 ^ 62)

-- a read of a file failed, or gave another number of bytes than it was asked for, and the refusal says so
pub record IsReadRefusal (Gives : FileId → ℕ → List ℕ → Type 0) (Fails : FileId → ℕ → IoError → Type 0) (e : Error) : Type 0 where
  pub file : FileId
  pub offset : ℕ
  pub asked : ℕ
  pub fault : IsReadFault (Gives file offset) (Fails file offset) asked e

-- ---- their last one

-- these are all bytes of a part that begins its file from this byte on
pub record IsRestOf (whole : Part) (at : ℕ) (rest : Part) : Type 0 where
  pub begins : whole.offset ≡ 0
  pub is : rest ≡ rest_of whole at

-- a part that begins its file has this tail, which a mode doesn't refuse; it is of this version, and its entry blocks are sound if it is one of a rewrite file
pub record IsTailAccepted (mode : RecoveryMode) (part : Part) (tail : Option CutTail) : Type 0 where
  pub told : IsTornAs part tail
  pub tolerated : ¬ (IsTailRefused mode part)
  pub of_version : ¬ (IsOfOther part)
  pub sound : IsPartSound part

-- why a part that begins its file is refused
abbrev pub IsPartFault : RecoveryMode → Part → Error → Type 0
IsPartFault mode part e = (IsTailRefusedAs mode part e ⊎ IsOtherAs part e) ⊎ ((part.id.queue ≡ Rewrite) × IsUnsoundAs part e)

-- ---- what is left of them

-- the files of a queue that are there already of those that it has once what is missing was asked
abbrev pub kept_by : Missing → List NumberedBytes → List NumberedBytes
kept_by Nothing files = files
kept_by FirstFile files = files
kept_by (Cut tail) files = cut_last tail.offset files

-- the found files of a queue, which a mode accepts, by what is missing of them, what is known of those that are there once it was asked, and the sizes of those that are to be read
pub record IsSizedQueue (mode : RecoveryMode) (queue : LogQueue) (version : Version) (files : List NumberedBytes) (sized : SizedQueue) : Type 0 where
  pub missing : IsMissingOf mode queue version files sized.ready.missing
  pub known : AreOf (left_by sized.ready.missing files) sized.ready.known
  pub left : sized.left.items ≡ map size_of (kept_by sized.ready.missing files)

-- the numbers of sizes
abbrev pub numbers_of : List FileSize → List ℕ
numbers_of sizes = map (λ size. size.seq) sizes

-- numbers are consecutive up to one that the next doesn't follow, and the refusal says so
pub record AreNumbersApartAs (queue : LogQueue) (ns : List ℕ) (e : Error) : Type 0 where
  pub last : ℕ
  pub next : ℕ
  pub together : StandTogether ns last next
  pub why : IsApartAs queue last next e

-- the numbers of all files but the last one, and that one's number and length
pub record IsKnownLast (sizes : List FileSize) (known : QueueFiles) : Type 0 where
  pub closed : List FileSize
  pub last : FileSize
  pub split : sizes ≡ closed ++ last ∷ []
  pub have : known.closed.items ≡ numbers_of closed
  pub seq : known.seq ≡ last.seq
  pub len : known.len ≡ last.len

-- there is no file
pub record IsNoneKnown (sizes : List FileSize) (known : QueueFiles) : Type 0 where
  pub none : sizes ≡ []
  pub have : known.closed.items ≡ []
  pub seq : known.seq ≡ 1
  pub len : known.len ≡ 0

-- either
abbrev pub AreKnownOf : List FileSize → QueueFiles → Type 0
AreKnownOf sizes known = IsNoneKnown sizes known ⊎ IsKnownLast sizes known

-- the last of these sizes is cut
pub record IsLastShorter (len : ℕ) (sizes left : List FileSize) : Type 0 where
  pub closed : List FileSize
  pub last : FileSize
  pub split : sizes ≡ closed ++ last ∷ []
  pub cut : left ≡ closed ++ record { seq = last.seq; len = len } ∷ []

-- these sizes are left of those
abbrev pub AreLeft : Missing → List FileSize → List FileSize → Type 0
AreLeft (Cut tail) sizes left = (sizes ≡ []) ⊎ IsLastShorter tail.offset sizes left
AreLeft _ sizes left = left ≡ sizes
