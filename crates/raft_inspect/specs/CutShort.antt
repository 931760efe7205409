-- What was written where not all could be.
use Rattle.std.specs.Prelude.{◌≡◌, ◌⊎◌, ℕ, List, ◌++◌, Option, None, Bool}
use Rattle.std.specs.Io.KnownBytes.{Appends, Keeps}
use Rattle.raft_base.specs.declared.pipe_log.FileId.{FileId}
use Rattle.raft_base.specs.declared.pipe_log.LogQueue.{LogQueue}
use Rattle.raft_base.specs.declared.pipe_log.LogQueue.TheVariants.{Append, Rewrite}
use Rattle.raft_base.specs.declared.pipe_log.Version.{Version}
use Rattle.raft_records.specs.Lines.{AppendsFront}
use Rattle.raft_reading.specs.IoErrors.{IoError}
use Rattle.raft_reading.specs.declared.queue_files.FileSize.{FileSize}
use Rattle.raft_listing.specs.declared.scan.FileScan.{FileScan}
use Rattle.raft_report.specs.declared.form.Form.{Form}
use Rattle.raft_survey.specs.FileScans.{AreScansOf, IsScanOf}
use Rattle.raft_inspect.specs.Checked.{IsChecked}
use Rattle.raft_inspect.specs.Openings.{IsOpeningOf}
use Rattle.raft_inspect.specs.PrintedChecks.{AreScansPrinted}
use Rattle.raft_inspect.specs.PrintedForms.{check_lines, opening_lines, scan_lines, scans_lines}
use Rattle.raft_inspect.specs.declared.findings.Findings.{Findings}
use Rattle.raft_inspect.specs.declared.opening.Opening.{Opening}

-- nothing of a text was written, or a prefix of it, and not all
abbrev pub IsTextCutShort : Option (List ℕ) → Option (List ℕ) → List ℕ → Type 0
IsTextCutShort old new text = Keeps old new ⊎ AppendsFront old new text

-- a prefix of a text was written, perhaps all of it
pub record AppendsPrefix (old new : Option (List ℕ)) (text : List ℕ) : Type 0 where
  pub prefix : List ℕ
  pub rest : List ℕ
  pub split : text ≡ prefix ++ rest
  pub written : Appends old new prefix

-- of a file, behind the one of this number, nothing was written, or not all lines of a scan of it
abbrev pub IsScanCutShort : (FileId → ℕ → List ℕ → Type 0) → LogQueue → Version → FileSize → Form → Option ℕ → Option (List ℕ) → Option (List ℕ) → Type 0
IsScanCutShort Gives queue version size form last old new =
    Keeps old new ⊎ ((scan : FileScan) × IsScanOf Gives queue version size scan × AppendsFront old new (scan_lines form queue last scan))

-- the first files of a queue were scanned, and a prefix of the lines of the scans was written
pub record AreScansCutShort (Gives : FileId → ℕ → List ℕ → Type 0) (queue : LogQueue) (version : Version) (sizes : List FileSize) (form : Form) (old new : Option (List ℕ)) : Type 0 where
  pub first : List FileSize
  pub left : List FileSize
  pub split : sizes ≡ first ++ left
  pub scans : List FileScan
  pub scanned : AreScansOf Gives queue version first scans
  pub written : AppendsPrefix old new (scans_lines form queue None scans)

-- so it was of the append queue; or all lines of its scans were written, and so it was then of the rewrite queue
abbrev pub AreBothScansCutShort : (FileId → ℕ → List ℕ → Type 0) → Version → List FileSize → List FileSize → Form → Option (List ℕ) → Option (List ℕ) → Type 0
AreBothScansCutShort Gives version append rewrite form old new =
    AreScansCutShort Gives Append version append form old new
    ⊎ ((between : Option (List ℕ)) × (are_undamaged : Bool) × AreScansPrinted Gives Append version append form old between are_undamaged × AreScansCutShort Gives Rewrite version rewrite form between new)

-- files were checked, and of all lines of what was found a prefix was written, and not all
pub record IsWholeCheckCutShort (Gives : FileId → ℕ → List ℕ → Type 0) (Fails : FileId → ℕ → IoError → Type 0) (version : Version) (workers : ℕ) (append rewrite : List FileSize) (form : Form) (old new : Option (List ℕ)) : Type 0 where
  pub found : Findings
  pub append_scans : List FileScan
  pub rewrite_scans : List FileScan
  pub checked : IsChecked Gives Fails version workers append rewrite append_scans rewrite_scans found
  pub written : AppendsFront old new (check_lines form append_scans rewrite_scans found)

-- what a check that isn't done has written: a prefix of the lines of scans of the first files, or of all its lines, but not all of these
abbrev pub IsCheckCutShort : (FileId → ℕ → List ℕ → Type 0) → (FileId → ℕ → IoError → Type 0) → Version → ℕ → List FileSize → List FileSize → Form → Option (List ℕ) → Option (List ℕ) → Type 0
IsCheckCutShort Gives Fails version workers append rewrite form old new =
    AreBothScansCutShort Gives version append rewrite form old new ⊎ IsWholeCheckCutShort Gives Fails version workers append rewrite form old new

-- nothing was written, or a prefix of the lines of what an opening of files of these sizes would do, perhaps all of them
abbrev pub IsOpeningCutShort : (FileId → ℕ → List ℕ → Type 0) → (FileId → ℕ → IoError → Type 0) → Version → ℕ → List FileSize → List FileSize → Form → Option (List ℕ) → Option (List ℕ) → Type 0
IsOpeningCutShort Gives Fails version workers append rewrite form old new =
    Keeps old new ⊎ ((opening : Opening) × IsOpeningOf Gives Fails version workers append rewrite opening × AppendsPrefix old new (opening_lines form opening))
