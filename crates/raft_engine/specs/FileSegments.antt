-- Segments that are made of found files.
use Rattle.std.specs.Prelude.{◌≡◌, ◌<◌, ◌^◌, List, length, Vec}
use Rattle.std.specs.Global.{Global}
use Rattle.raft_base.specs.declared.pipe_log.LogQueue.{LogQueue}
use Rattle.raft_base.specs.declared.pipe_log.Version.{Version}
use Rattle.raft_records.specs.FilePart.{Part}
use Rattle.raft_history.specs.Batches.{Event}
use Rattle.raft_files.specs.Asks.{NumberedBytes}
use Rattle.raft_replay.specs.Segments.{SegmentsAreOf, SegmentsHold}
use Rattle.raft_recover.specs.Files.{AreWholeFiles, FilesHold, bytes_of_files}

-- segments of whole files of a queue, as many as files, which have fewer than 2^63 bytes
pub record AreSegmentsOfFiles (queue : LogQueue) (version : Version) (files : List NumberedBytes) (segments : List (Vec Part Global)) : Type 0 where
  pub same : (h : List Event) → (FilesHold queue version files h → SegmentsHold segments h) × (SegmentsHold segments h → FilesHold queue version files h)
  pub whole : AreWholeFiles queue version files segments
  pub of_queue : SegmentsAreOf queue segments
  pub count : length segments ≡ length files
  pub few : bytes_of_files files < 2 ^ 63
