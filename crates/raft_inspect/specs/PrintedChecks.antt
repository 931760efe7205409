-- Checks that were printed.
use Rattle.std.specs.Prelude.{◌≡◌, ◌↔◌, ℕ, List, Option, None, Bool, true}
use Rattle.std.specs.Io.KnownBytes.{Appends}
use Rattle.std.specs.List.{AllByRecursion}
use Rattle.raft_base.specs.declared.pipe_log.FileId.{FileId}
use Rattle.raft_base.specs.declared.pipe_log.LogQueue.{LogQueue}
use Rattle.raft_base.specs.declared.pipe_log.LogQueue.TheVariants.{Append, Rewrite}
use Rattle.raft_base.specs.declared.pipe_log.Version.{Version}
use Rattle.raft_reading.specs.IoErrors.{IoError}
use Rattle.raft_reading.specs.declared.queue_files.FileSize.{FileSize}
use Rattle.raft_listing.specs.declared.scan.FileScan.{FileScan}
use Rattle.raft_report.specs.declared.form.Form.{Form}
use Rattle.raft_survey.specs.FileScans.{AreScansOf}
use Rattle.raft_inspect.specs.Checked.{IsChecked}
use Rattle.raft_inspect.specs.PrintedForms.{check_lines, scans_lines}
use Rattle.raft_inspect.specs.Verdicts.{IsUndamaged}
use Rattle.raft_inspect.specs.declared.findings.Findings.{Findings}
use Rattle.raft_inspect.specs.declared.findings.UndamagedQueues.{UndamagedQueues}

-- the files of a queue were scanned, the lines of the scans were written and nothing else, and it is known whether all is undamaged
pub record AreScansPrinted (Gives : FileId → ℕ → List ℕ → Type 0) (queue : LogQueue) (version : Version) (sizes : List FileSize) (form : Form) (old new : Option (List ℕ)) (are_undamaged : Bool) : Type 0 where
  pub scans : List FileScan
  pub scanned : AreScansOf Gives queue version sizes scans
  pub written : Appends old new (scans_lines form queue None scans)
  pub undamaged : (are_undamaged ≡ true) ↔ AllByRecursion IsUndamaged scans

-- so it was of the append queue, and then of the rewrite queue
pub record AreBothScansPrinted (Gives : FileId → ℕ → List ℕ → Type 0) (version : Version) (append rewrite : List FileSize) (form : Form) (old new : Option (List ℕ)) (undamaged : UndamagedQueues) : Type 0 where
  pub between : Option (List ℕ)
  pub of_append : AreScansPrinted Gives Append version append form old between undamaged.append
  pub of_rewrite : AreScansPrinted Gives Rewrite version rewrite form between new undamaged.rewrite

-- files were checked, and the lines of what was found were written, and nothing else
pub record IsCheckPrinted (Gives : FileId → ℕ → List ℕ → Type 0) (Fails : FileId → ℕ → IoError → Type 0) (version : Version) (workers : ℕ) (append rewrite : List FileSize) (form : Form) (old new : Option (List ℕ)) (found : Findings) : Type 0 where
  pub append_scans : List FileScan
  pub rewrite_scans : List FileScan
  pub checked : IsChecked Gives Fails version workers append rewrite append_scans rewrite_scans found
  pub written : Appends old new (check_lines form append_scans rewrite_scans found)
