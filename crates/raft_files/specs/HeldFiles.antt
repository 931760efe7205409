-- What files in memory hold.
use Rattle.std.specs.Prelude.{◌≡◌, ℕ, ◌≤◌, List, length, drop, Vec, Some}
use Rattle.std.specs.Global.{Global}
use Rattle.raft_base.specs.declared.pipe_log.FileBlockHandle.{FileBlockHandle}
use Rattle.raft_base.specs.declared.pipe_log.LogQueue.TheVariants.{Append, Rewrite}
use Rattle.raft_files.specs.Asks.{Act, Ask, acts_on}
use Rattle.raft_files.specs.Disk.{NumberedBytes, begun, deletions, files_of}
use Rattle.raft_files.specs.Places.{bytes_at}

-- a file by its bytes
abbrev pub file_shown : ℕ × Vec ℕ Global → NumberedBytes
file_shown file = (file.0, file.1.items)

-- these are the files of a queue when nothing is lost, and no file was deleted that wasn't there; what was asked of the queue is given newest first
pub record AreHeld (acts : List Act) (files : List NumberedBytes) : Type 0 where
  pub held : files ≡ drop (deletions acts) (begun acts)
  pub few : deletions acts ≤ length (begun acts)

-- the same of both queues
abbrev pub AreBothHeld : List Ask → List NumberedBytes → List NumberedBytes → Type 0
AreBothHeld asked append rewrite = AreHeld (acts_on Append asked) append × AreHeld (acts_on Rewrite asked) rewrite

-- a read of this place returns these bytes
abbrev pub IsAt : List Ask → FileBlockHandle → List ℕ → Type 0
IsAt asked place bytes = bytes_at (files_of place.id.queue asked) place.id.seq place.offset place.len ≡ Some bytes
