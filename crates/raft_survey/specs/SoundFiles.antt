-- Files in which everything can be read.
use Rattle.std.specs.Prelude.{◌≡◌, ℕ, ◌+◌, List, [], ◌∷◌, length}
use Rattle.raft_base.specs.declared.pipe_log.FileId.{FileId}
use Rattle.raft_base.specs.declared.pipe_log.LogFileContext.{LogFileContext}
use Rattle.raft_base.specs.declared.pipe_log.LogQueue.{LogQueue}
use Rattle.raft_base.specs.declared.pipe_log.Version.{Version}
use Rattle.raft_records.specs.FilePart.{part_of}
use Rattle.raft_reading.specs.FilesRead.{AreRead, joined}
use Rattle.raft_reading.specs.QueueRead.{file_of}
use Rattle.raft_reading.specs.declared.queue_files.FileSize.{FileSize}
use Rattle.raft_listing.specs.SoundParts.{IsSoundPart}

-- parts of a file, the first at this offset and each other where the one before it ends: in each stand batches, one after the other, and the bytes of all their entries can be read
abbrev pub AreSoundParts : LogFileContext → ℕ → List (List ℕ) → Type 0
AreSoundParts file offset [] = Unit {0}
AreSoundParts file offset (bytes ∷ parts) = IsSoundPart (part_of file offset bytes) × AreSoundParts file (offset + length bytes) parts

-- the bytes of a file of this length, as reads gave them, are sound parts
pub record IsSoundFile (Gives : ℕ → List ℕ → Type 0) (file : LogFileContext) (len : ℕ) : Type 0 where
  pub bytes : List ℕ
  pub read : AreRead Gives bytes
  pub whole : length bytes ≡ len
  pub parts : List (List ℕ)
  pub all : joined parts ≡ bytes
  pub sound : AreSoundParts file 0 parts

-- so it is of each file of a queue
abbrev pub AreSoundFiles : (FileId → ℕ → List ℕ → Type 0) → LogQueue → Version → List FileSize → Type 0
AreSoundFiles Gives queue version [] = Unit {0}
AreSoundFiles Gives queue version (size ∷ sizes) =
    IsSoundFile (Gives (file_of queue size.seq)) (record { id = file_of queue size.seq; version = version }) size.len × AreSoundFiles Gives queue version sizes
