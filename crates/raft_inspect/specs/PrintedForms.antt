-- What a check prints, in either form.
use Rattle.std.specs.Prelude.{ℕ, List, [], ◌∷◌, ◌++◌, Option, Some, None}
use Rattle.raft_base.specs.declared.pipe_log.LogQueue.{LogQueue}
use Rattle.raft_base.specs.declared.pipe_log.LogQueue.TheVariants.{Append, Rewrite}
use Rattle.raft_listing.specs.declared.scan.FileScan.{FileScan}
use Rattle.raft_survey.specs.Reported.{scan_text}
use Rattle.raft_report.specs.JsonLines.{scan_json}
use Rattle.raft_report.specs.declared.form.Form.{Form}
use Rattle.raft_report.specs.declared.form.Form.TheVariants.{Text, Json}
use Rattle.raft_inspect.specs.Printed.{ending_text, opening_text}
use Rattle.raft_inspect.specs.PrintedJson.{ending_json, opening_json}
use Rattle.raft_inspect.specs.declared.findings.Findings.{Findings}
use Rattle.raft_inspect.specs.declared.opening.Opening.{Opening}

-- the lines of what a scan of a file finds, behind the file of this number
abbrev pub scan_lines : Form → LogQueue → Option ℕ → FileScan → List ℕ
scan_lines Text queue last scan = scan_text queue last scan
scan_lines Json queue last scan = scan_json queue last scan

-- the lines of scans, in order
abbrev pub scans_lines : Form → LogQueue → Option ℕ → List FileScan → List ℕ
scans_lines form queue last [] = []
scans_lines form queue last (scan ∷ scans) = scan_lines form queue last scan ++ scans_lines form queue (Some scan.seq) scans

-- the lines of what an opening would do
abbrev pub opening_lines : Form → Opening → List ℕ
opening_lines Text opening = opening_text opening
opening_lines Json opening = opening_json opening

-- the lines behind those of the files
abbrev pub ending_lines : Form → Findings → List ℕ
ending_lines Text found = ending_text found
ending_lines Json found = ending_json found

-- all lines of a check with these scans: those of the append queue's files, of the rewrite queue's, and those behind them
abbrev pub check_lines : Form → List FileScan → List FileScan → Findings → List ℕ
check_lines form append rewrite found = scans_lines form Append None append ++ (scans_lines form Rewrite None rewrite ++ ending_lines form found)
