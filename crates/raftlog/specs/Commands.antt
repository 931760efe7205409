-- What the commands do with found files.
use Rattle.std.specs.Prelude.{◌≡◌, ◌↔◌, ◌⊎◌, ⊤, ℕ, List, codes, Option, Bool}
use Rattle.std.specs.Io.KnownBytes.{Appends, Keeps}
use Rattle.clap.specs.declared.parser.matches.ArgMatches.{ArgMatches}
use Rattle.raft_base.specs.declared.pipe_log.FileId.{FileId}
use Rattle.raft_base.specs.declared.pipe_log.Version.{Version}
use Rattle.raft_accessor.specs.Accessor.{Accessor}
use Rattle.raft_reading.specs.IoErrors.{IoError}
use Rattle.raft_reading.specs.declared.queue_files.FileSize.{FileSize}
use Rattle.raft_recover.specs.FileRecovery.{AreSizesOf, NamedGives}
use Rattle.raft_recover.specs.Requests.{NumberedPath}
use Rattle.raft_recover.specs.TableLines.{PrintsFrontOfTables, PrintsTables}
use Rattle.raft_records.specs.FilePart.{Part}
use Rattle.raft_records.specs.Lines.{AppendsFront}
use Rattle.raft_listing.specs.Dumped.{IsMetText}
use Rattle.raft_listing.specs.Walks.{Met}
use Rattle.raft_listing.specs.declared.scan.FileScan.{FileScan}
use Rattle.raft_listing.specs.declared.selection.Selection.{Selection}
use Rattle.raft_report.specs.JsonItems.{IsMetJson}
use Rattle.raft_report.specs.JsonLines.{IsJsonOfTables}
use Rattle.raft_report.specs.declared.form.Form.{Form}
use Rattle.raft_report.specs.declared.form.Form.TheVariants.{Text, Json}
use Rattle.raft_survey.specs.DumpedFiles.{AreDumped}
use Rattle.raft_inspect.specs.Checked.{IsChecked}
use Rattle.raft_inspect.specs.Openings.{AreTablesOf, HoldsOfRead}
use Rattle.raft_inspect.specs.Printed.{verdict_word}
use Rattle.raft_inspect.specs.PrintedChecks.{IsCheckPrinted}
use Rattle.raft_inspect.specs.declared.findings.Findings.{Findings}
use Rattle.raft_inspect.specs.declared.opening.Opening.{Opening}
use Rattle.raft_inspect.specs.declared.opening.Opening.TheVariants.{Opens, Refuses}
use Rattle.raftlog.specs.Sources.{of_queue}
use Rattle.raftlog.specs.Words.{IsVersionAsked}

-- files of these sizes were checked, the lines of what was found were written and nothing else, and the status is 0 exactly where the last word is `sound`
pub record IsCheckDone (Gives : FileId → ℕ → List ℕ → Type 0) (Fails : FileId → ℕ → IoError → Type 0) (version : Version) (workers : ℕ) (append rewrite : List FileSize) (form : Form) (before after : Option (List ℕ)) (status : ℕ) : Type 0 where
  pub found : Findings
  pub printed : IsCheckPrinted Gives Fails version workers append rewrite form before after found
  pub verdict : (status ≡ 0) ↔ (verdict_word found ≡ codes "sound")

-- files of both queues were found at paths, and were checked in the version that words ask for, by the bytes that reads at these paths gave; the status is 0 exactly where the last word is `sound`
pub record AreFilesChecked (words : ArgMatches) (Gives : List ℕ → ℕ → List ℕ → Type 0) (status : ℕ) : Type 0 where
  pub append : List NumberedPath
  pub rewrite : List NumberedPath
  pub append_sizes : List FileSize
  pub rewrite_sizes : List FileSize
  pub version : Version
  pub asked : IsVersionAsked words version
  pub workers : ℕ
  pub append_scans : List FileScan
  pub rewrite_scans : List FileScan
  pub found : Findings
  pub of_append : AreSizesOf append append_sizes
  pub of_rewrite : AreSizesOf rewrite rewrite_sizes
  pub checked : IsChecked (λ file. NamedGives Gives (of_queue file.queue append rewrite) file) (λ file offset e. Unit {0}) version workers append_sizes rewrite_sizes append_scans rewrite_scans found
  pub verdict : (status ≡ 0) ↔ (verdict_word found ≡ codes "sound")

-- this text says, in a form, what is met at a byte of a part, as far as it is selected
abbrev pub IsSaidIn : Form → Selection → Part → ℕ → Met → List ℕ → Type 0
IsSaidIn Text = IsMetText
IsSaidIn Json = IsMetJson

-- what stands in files of these sizes was dumped to lines in a form, and all of these are in the output
pub record IsDumpDone (form : Form) (Gives : FileId → ℕ → List ℕ → Type 0) (version : Version) (append rewrite : List FileSize) (selection : Selection) (before after : Option (List ℕ)) (is_damaged : Bool) : Type 0 where
  pub lines : Option (List ℕ)
  pub dumped : AreDumped (IsSaidIn form) Gives version append rewrite selection before lines is_damaged
  pub whole : Keeps lines after

-- the lines of JSON of tables were written after the old bytes, where those are known
pub record PrintsTablesAsJson (accessor : Accessor) (old new : Option (List ℕ)) : Type 0 where
  pub text : List ℕ
  pub of_tables : IsJsonOfTables accessor text
  pub written : Appends old new text

-- tables were written, as text or as JSON, and nothing else
abbrev pub PrintsTablesIn : Form → Accessor → Option (List ℕ) → Option (List ℕ) → Type 0
PrintsTablesIn Text = PrintsTables
PrintsTablesIn Json = PrintsTablesAsJson

-- a prefix of the lines of JSON of tables, and not all of them, was written after the old bytes, where those are known
pub record PrintsPrefixOfTablesAsJson (accessor : Accessor) (old new : Option (List ℕ)) : Type 0 where
  pub text : List ℕ
  pub of_tables : IsJsonOfTables accessor text
  pub written : AppendsFront old new text

-- so it is in either form
abbrev pub PrintsPrefixOfTablesIn : Form → Accessor → Option (List ℕ) → Option (List ℕ) → Type 0
PrintsPrefixOfTablesIn Text = PrintsFrontOfTables
PrintsPrefixOfTablesIn Json = PrintsPrefixOfTablesAsJson

-- tables that an engine would have of files of these sizes were written, and nothing else
pub record AreRegionsPrinted (form : Form) (Gives : FileId → ℕ → List ℕ → Type 0) (version : Version) (append rewrite : List FileSize) (before after : Option (List ℕ)) : Type 0 where
  pub tables : Accessor
  pub read : HoldsOfRead Gives append rewrite (AreTablesOf version tables)
  pub written : PrintsTablesIn form tables before after

-- nothing was written, or a prefix of the lines of such tables, and not all of them
abbrev pub AreRegionsCutShort : Form → (FileId → ℕ → List ℕ → Type 0) → Version → List FileSize → List FileSize → Option (List ℕ) → Option (List ℕ) → Type 0
AreRegionsCutShort form Gives version append rewrite before after =
    Keeps before after ⊎ ((tables : Accessor) × HoldsOfRead Gives append rewrite (AreTablesOf version tables) × PrintsPrefixOfTablesIn form tables before after)

-- files are opened, and not refused
abbrev pub IsOpened : Opening → Type 0
IsOpened (Opens recovered) = ⊤
IsOpened (Refuses error) = ⊥
