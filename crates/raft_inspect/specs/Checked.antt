-- What a check of the files of both queues finds.
use Rattle.std.specs.Prelude.{◌≡◌, ◌↔◌, ℕ, List, length, true}
use Rattle.raft_base.specs.declared.pipe_log.FileId.{FileId}
use Rattle.raft_base.specs.declared.pipe_log.LogQueue.TheVariants.{Append, Rewrite}
use Rattle.raft_base.specs.declared.pipe_log.Version.{Version}
use Rattle.raft_reading.specs.IoErrors.{IoError}
use Rattle.raft_reading.specs.declared.queue_files.FileSize.{FileSize}
use Rattle.raft_listing.specs.declared.scan.FileScan.{FileScan}
use Rattle.raft_survey.specs.FileScans.{AreScansOf}
use Rattle.raft_inspect.specs.Openings.{IsOpeningOf}
use Rattle.raft_inspect.specs.SoundFiles.{AreSound}
use Rattle.raft_inspect.specs.Verdicts.{IsNothingWrong}
use Rattle.raft_inspect.specs.declared.findings.Findings.{Findings}

-- Files were scanned, with these scans, and what an opening would do was found out; it says that they are sound exactly where nothing is wrong, and then they are.
pub record IsChecked (Gives : FileId → ℕ → List ℕ → Type 0) (Fails : FileId → ℕ → IoError → Type 0) (version : Version) (workers : ℕ) (append rewrite : List FileSize) (append_scans rewrite_scans : List FileScan) (found : Findings) : Type 0 where
  pub append_scanned : AreScansOf Gives Append version append append_scans
  pub rewrite_scanned : AreScansOf Gives Rewrite version rewrite rewrite_scans
  pub append_counted : found.append_files ≡ length append
  pub rewrite_counted : found.rewrite_files ≡ length rewrite
  pub opening : IsOpeningOf Gives Fails version workers append rewrite found.opening
  pub verdict : (found.is_sound ≡ true) ↔ IsNothingWrong append_scans rewrite_scans found.opening
  pub sound : found.is_sound ≡ true → AreSound Gives version append rewrite
