-- What scans of files say.
use Rattle.std.specs.Prelude.{◌≡◌, ℕ, List, [], ◌∷◌}
use Rattle.raft_base.specs.declared.pipe_log.FileId.{FileId}
use Rattle.raft_base.specs.declared.pipe_log.LogQueue.{LogQueue}
use Rattle.raft_base.specs.declared.pipe_log.Version.{Version}
use Rattle.raft_reading.specs.QueueRead.{file_of}
use Rattle.raft_reading.specs.declared.queue_files.FileSize.{FileSize}
use Rattle.raft_listing.specs.Scanned.{IsScanned}
use Rattle.raft_listing.specs.declared.scan.FileScan.{FileScan}
use Rattle.raft_survey.specs.FileWalks.{HasWalkedFile}

-- a scan that has met nothing yet was shown all that stands in a file
pub record IsScanOf (Gives : FileId → ℕ → List ℕ → Type 0) (queue : LogQueue) (version : Version) (size : FileSize) (scan : FileScan) : Type 0 where
  pub first : FileScan
  pub batches : first.batches ≡ 0
  pub read : first.read ≡ size.len
  pub unseen : first.unseen ≡ 0
  pub undamaged : first.damages.items ≡ []
  pub seq : first.seq ≡ size.seq
  pub len : first.len ≡ size.len
  pub walked : HasWalkedFile IsScanned (Gives (file_of queue size.seq)) (record { id = file_of queue size.seq; version = version }) size.len first scan

-- a scan of each file, in order
abbrev pub AreScansOf : (FileId → ℕ → List ℕ → Type 0) → LogQueue → Version → List FileSize → List FileScan → Type 0
AreScansOf Gives queue version [] [] = Unit {0}
AreScansOf Gives queue version (size ∷ sizes) (scan ∷ scans) = IsScanOf Gives queue version size scan × AreScansOf Gives queue version sizes scans
AreScansOf Gives queue version _ _ = ⊥
