-- What was read of the files of a queue, and what a machine stands for that has replayed them.
use Rattle.std.specs.Prelude.{◌≡◌, ℕ, List, [], ◌∷◌, ◌++◌, length}
use Rattle.raft_base.specs.declared.errors.Error.{Error}
use Rattle.raft_base.specs.declared.pipe_log.FileId.{FileId}
use Rattle.raft_base.specs.declared.pipe_log.LogQueue.{LogQueue}
use Rattle.raft_base.specs.declared.pipe_log.Version.{Version}
use Rattle.raft_records.specs.FilePart.{Part}
use Rattle.raft_history.specs.Batches.{Event}
use Rattle.raft_history.specs.Histories.{Apart, IsSmall}
use Rattle.raft_replay.specs.Segments.{EachHolds, HoldsFrom}
use Rattle.raft_replay.specs.Stops.{GoneOn, IsNothing}
use Rattle.raft_reading.specs.FilesRead.{AreRead, IsFileStop}
use Rattle.raft_reading.specs.IoErrors.{IoError}
use Rattle.raft_reading.specs.declared.queue_files.FileSize.{FileSize}

-- a file by its number and its bytes
abbrev pub NumberedBytes : Type 0
NumberedBytes = ℕ × List ℕ

-- all of a file's bytes
abbrev pub whole_file : LogQueue → Version → NumberedBytes → Part
whole_file queue version file = record { id = record { queue = queue; seq = file.0 }; version = version; offset = 0; bytes = file.1 }

-- the batches of files, in order
abbrev pub FilesHold : LogQueue → Version → List NumberedBytes → List Event → Type 0
FilesHold queue version files h =
    EachHolds (λ file. HoldsFrom (whole_file queue version file) 0) files h

-- the file of a queue with this number
abbrev pub file_of : LogQueue → ℕ → FileId
file_of queue seq = record { queue = queue; seq = seq }

-- these are the bytes that reads of a file gave, as many as it has
pub record IsAllRead (Gives : FileId → ℕ → List ℕ → Type 0) (queue : LogQueue) (size : FileSize) (file : NumberedBytes) : Type 0 where
  pub number : file.0 ≡ size.seq
  pub whole : length file.1 ≡ size.len
  pub read : AreRead (Gives (file_of queue size.seq)) file.1

-- the same of each file, in order
abbrev pub AreAllRead : (FileId → ℕ → List ℕ → Type 0) → LogQueue → List FileSize → List NumberedBytes → Type 0
AreAllRead Gives queue [] [] = Unit {0}
AreAllRead Gives queue [] (file ∷ files) = ⊥
AreAllRead Gives queue (size ∷ sizes) [] = ⊥
AreAllRead Gives queue (size ∷ sizes) (file ∷ files) = IsAllRead Gives queue size file × AreAllRead Gives queue sizes files

-- the machine stands for the batches that the bytes of these files hold, in order, which reads gave, and exactly where effects are apart
pub record IsQueueReplayed {M : Type 0} (Gives : FileId → ℕ → List ℕ → Type 0) (queue : LogQueue) (version : Version) (sizes : List FileSize) (stands_for stands_exactly : M → List Event → Type 0) (machine : M) : Type 0 where
  pub files : List NumberedBytes
  pub read : AreAllRead Gives queue sizes files
  pub history : List Event
  pub held : FilesHold queue version files history
  pub stands : IsSmall history → stands_for machine history
  pub exact : IsSmall history → Apart history → stands_exactly machine history

-- one of the files isn't replayed: those in front of it were read and hold batches, which can be read
pub record IsQueueStop (Gives : FileId → ℕ → List ℕ → Type 0) (Fails : FileId → ℕ → IoError → Type 0) (queue : LogQueue) (version : Version) (sizes : List FileSize) (IsTaken : List Event → Type 0) (e : Error) : Type 0 where
  pub before : List FileSize
  pub size : FileSize
  pub after : List FileSize
  pub split : sizes ≡ before ++ size ∷ after
  pub files : List NumberedBytes
  pub read : AreAllRead Gives queue before files
  pub history : List Event
  pub held : FilesHold queue version files history
  pub stop : IsFileStop (Gives (file_of queue size.seq)) (Fails (file_of queue size.seq)) (record { id = file_of queue size.seq; version = version }) size.len (GoneOn IsNothing history) IsTaken e
