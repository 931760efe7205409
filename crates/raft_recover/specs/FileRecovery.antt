-- What is promised of the recovery of files that are read in pieces.
use Rattle.std.specs.Prelude.{◌≡◌, ◌⊎◌, ℕ, ◌+◌, List, [], ◌∷◌, ◌++◌, map, Option}
use Rattle.raft_base.specs.declared.errors.Error.{Error}
use Rattle.raft_base.specs.declared.errors.Error.TheVariants as errors
use Rattle.raft_base.specs.declared.pipe_log.FileId.{FileId}
use Rattle.raft_base.specs.declared.pipe_log.LogQueue.{LogQueue}
use Rattle.raft_base.specs.declared.pipe_log.Version.{Version}
use Rattle.raft_records.specs.Lines.{IsIoError}
use Rattle.raft_history.specs.Batches.{Event}
use Rattle.raft_history.specs.Histories.{IsSmall, Sound}
use Rattle.raft_accessor.specs.Accessor.{Accessor}
use Rattle.raft_reading.specs.IoErrors.{IoError}
use Rattle.raft_reading.specs.QueueRead.{AreAllRead, IsQueueStop}
use Rattle.raft_reading.specs.declared.queue_files.FileSize.{FileSize}
use Rattle.raft_recover.specs.Files.{FilesHold, PrintsFrontOfRecovered, PrintsRecovered}
use Rattle.raft_recover.specs.Recovery.{IsRecovered}
use Rattle.raft_recover.specs.Requests.{NumberedBytes, NumberedPath}

-- how many bytes files have together
abbrev pub bytes_of_sizes : List FileSize → ℕ
bytes_of_sizes [] = 0
bytes_of_sizes (size ∷ sizes) = size.len + bytes_of_sizes sizes

-- a size for each file that is named, under its number, in order
abbrev pub AreSizesOf : List NumberedPath → List FileSize → Type 0
AreSizesOf named sizes = map (λ (size : FileSize). size.seq) sizes ≡ map (λ (path : NumberedPath). path.0) named

-- one of the files that are named has this number and this path
pub record IsNamed (named : List NumberedPath) (seq : ℕ) (path : List ℕ) : Type 0 where
  pub before : List NumberedPath
  pub after : List NumberedPath
  pub split : named ≡ before ++ (seq, path) ∷ after

-- reads of the file that is named by its number gave these bytes
abbrev pub NamedGives : (List ℕ → ℕ → List ℕ → Type 0) → List NumberedPath → FileId → ℕ → List ℕ → Type 0
NamedGives Gives named file offset bytes = (path : List ℕ) × IsNamed named file.seq path × Gives path offset bytes

-- what recovery gives of the bytes of the files, which reads gave
pub record IsRecoveredFrom (Gives : FileId → ℕ → List ℕ → Type 0) (queue : LogQueue) (version : Version) (sizes : List FileSize) (accessor : Accessor) : Type 0 where
  pub files : List NumberedBytes
  pub read : AreAllRead Gives queue sizes files
  pub recovered : IsRecovered queue (FilesHold queue version files) accessor

-- the lines of the tables of files, whose bytes reads gave, were written after the old bytes, where those are known
pub record PrintsFiles (Gives : FileId → ℕ → List ℕ → Type 0) (queue : LogQueue) (version : Version) (sizes : List FileSize) (old new : Option (List ℕ)) : Type 0 where
  pub files : List NumberedBytes
  pub read : AreAllRead Gives queue sizes files
  pub printed : PrintsRecovered queue version files old new

-- a front of these lines, and not all of them, was written
pub record PrintsFrontOfFiles (Gives : FileId → ℕ → List ℕ → Type 0) (queue : LogQueue) (version : Version) (sizes : List FileSize) (old new : Option (List ℕ)) : Type 0 where
  pub files : List NumberedBytes
  pub read : AreAllRead Gives queue sizes files
  pub printed : PrintsFrontOfRecovered queue version files old new

-- the files were read, and name 2^63 entries, key values and deletions together, or more: what took them in has failed
pub record AreOverfull (Gives : FileId → ℕ → List ℕ → Type 0) (queue : LogQueue) (version : Version) (sizes : List FileSize) (e : Error) : Type 0 where
  pub files : List NumberedBytes
  pub read : AreAllRead Gives queue sizes files
  pub history : List Event
  pub held : FilesHold queue version files history
  pub large : ¬ (IsSmall history)
  pub refusal : e ≡ errors.Failed

-- why the tables of files aren't recovered, but for want of memory: one of the files isn't replayed, or they name too many records
abbrev pub IsFilesRefusal : (FileId → ℕ → List ℕ → Type 0) → (FileId → ℕ → IoError → Type 0) → LogQueue → Version → List FileSize → Error → Type 0
IsFilesRefusal Gives Fails queue version sizes e =
    IsQueueStop Gives Fails queue version sizes Sound e ⊎ AreOverfull Gives queue version sizes e

-- the writer failed, once the tables of the files were found: of their lines a front was written, and not all
pub record IsFilesPrintFailure (Gives : FileId → ℕ → List ℕ → Type 0) (queue : LogQueue) (version : Version) (sizes : List FileSize) (old new : Option (List ℕ)) (e : Error) : Type 0 where
  pub io : IsIoError e
  pub printed : PrintsFrontOfFiles Gives queue version sizes old new
