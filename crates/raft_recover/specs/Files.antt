-- Whole files of a queue, the batches in them, and their tables as text.
use Rattle.std.specs.Prelude.{◌≡◌, ℕ, ◌+◌, List, [], ◌∷◌, length, map, Option, Vec}
use Rattle.std.specs.Global.{Global}
use Rattle.raft_base.specs.declared.errors.Error.{Error}
use Rattle.raft_base.specs.declared.pipe_log.LogQueue.{LogQueue}
use Rattle.raft_base.specs.declared.pipe_log.Version.{Version}
use Rattle.raft_records.specs.FilePart.{Part}
use Rattle.raft_records.specs.Lines.{IsIoError}
use Rattle.raft_history.specs.Batches.{Event}
use Rattle.raft_history.specs.Histories.{IsSmall, Sound}
use Rattle.raft_accessor.specs.Accessor.{Accessor}
pub use Rattle.raft_reading.specs.QueueRead.{FilesHold, whole_file}
use Rattle.raft_recover.specs.Recovery.{IsRecovered}
use Rattle.raft_recover.specs.Requests.{NumberedBytes}
use Rattle.raft_recover.specs.TableLines.{PrintsTables, PrintsFrontOfTables}

-- a file by its bytes
abbrev pub file_shown : ℕ × Vec ℕ Global → NumberedBytes
file_shown file = (file.0, file.1.items)

-- how many bytes files have together
abbrev pub bytes_of_files : List NumberedBytes → ℕ
bytes_of_files [] = 0
bytes_of_files (file ∷ files) = length file.1 + bytes_of_files files

-- a file isn't a sequence of readable batches, or the batches of all files, in order, name 2^63 entries, key values and deletions together, or more, or are a history that can't be read
pub record FilesCannotBeRead (queue : LogQueue) (version : Version) (files : List NumberedBytes) : Type 0 where
  pub unsound : (h : List Event) → FilesHold queue version files h → IsSmall h → ¬ (Sound h)

-- the lines of the files' tables were written after the old bytes, where those are known
pub record PrintsRecovered (queue : LogQueue) (version : Version) (files : List NumberedBytes) (old new : Option (List ℕ)) : Type 0 where
  pub accessor : Accessor
  pub recovered : IsRecovered queue (FilesHold queue version files) accessor
  pub printed : PrintsTables accessor old new

-- a front of the lines of the files' tables, and not all of them, was written after the old bytes, where those are known
pub record PrintsFrontOfRecovered (queue : LogQueue) (version : Version) (files : List NumberedBytes) (old new : Option (List ℕ)) : Type 0 where
  pub accessor : Accessor
  pub recovered : IsRecovered queue (FilesHold queue version files) accessor
  pub printed : PrintsFrontOfTables accessor old new

-- the writer failed, once the tables were found: of their lines a front was written, and not all
pub record IsPrintFailure (queue : LogQueue) (version : Version) (files : List NumberedBytes) (old new : Option (List ℕ)) (e : Error) : Type 0 where
  pub io : IsIoError e
  pub printed : PrintsFrontOfRecovered queue version files old new

-- the parts of a segment
abbrev pub segment_shown : Vec Part Global → List Part
segment_shown segment = segment.items

-- a segment of each file, in order: one part, which is all of the file
abbrev pub AreWholeFiles : LogQueue → Version → List NumberedBytes → List (Vec Part Global) → Type 0
AreWholeFiles queue version files segments =
    map segment_shown segments ≡ map (λ file. whole_file queue version file ∷ []) files
