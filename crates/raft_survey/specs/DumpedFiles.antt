-- What is dumped of the files of both queues.
use Rattle.std.specs.Prelude.{◌≡◌, ℕ, List, Option, Bool, false}
use Rattle.raft_base.specs.declared.pipe_log.FileId.{FileId}
use Rattle.raft_base.specs.declared.pipe_log.Version.{Version}
use Rattle.raft_records.specs.FilePart.{Part}
use Rattle.raft_reading.specs.declared.queue_files.FileSize.{FileSize}
use Rattle.raft_listing.specs.Dumped.{IsDumped, is_damaged_after}
use Rattle.raft_listing.specs.Walks.{Met}
use Rattle.raft_listing.specs.declared.selection.Selection.{Selection}
use Rattle.raft_survey.specs.FileWalks.{AreBothWalked}

-- a dump so far: what was written, where that is known, and whether some batch couldn't be read
pub record DumpSoFar : Type 0 where
  pub written : Option (List ℕ)
  pub is_damaged : Bool

-- what is said of what is met at a byte comes behind it
abbrev pub IsAddedToDump : (Selection → Part → ℕ → Met → List ℕ → Type 0) → Selection → DumpSoFar → Part → ℕ → Met → DumpSoFar → Type 0
IsAddedToDump Says s old part at met new =
    IsDumped Says s part at met old.written new.written × (new.is_damaged ≡ is_damaged_after met old.is_damaged)

-- all that stands in the files of both queues was dumped behind what was written, in order, in a form that says so
abbrev pub AreDumped : (Selection → Part → ℕ → Met → List ℕ → Type 0) → (FileId → ℕ → List ℕ → Type 0) → Version → List FileSize → List FileSize → Selection → Option (List ℕ) → Option (List ℕ) → Bool → Type 0
AreDumped Says Gives version append rewrite s old new is_damaged =
    AreBothWalked (IsAddedToDump Says s) Gives version append rewrite (record { written = old; is_damaged = false }) (record { written = new; is_damaged = is_damaged })
