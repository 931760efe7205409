-- Why something isn't found out, or isn't printed to its end.
use Rattle.std.specs.Prelude.{◌≡◌, ◌≢◌, ◌⊎◌, ℕ, List, true}
use Rattle.raft_base.specs.declared.errors.Error.{Error}
use Rattle.raft_base.specs.declared.errors.Error.TheVariants.{Memory}
use Rattle.raft_base.specs.declared.pipe_log.FileId.{FileId}
use Rattle.raft_base.specs.declared.pipe_log.Version.{Version}
use Rattle.raft_reading.specs.IoErrors.{IoError}
use Rattle.raft_reading.specs.declared.queue_files.FileSize.{FileSize}
use Rattle.raft_report.specs.declared.print_error.PrintError.{PrintError}
use Rattle.raft_report.specs.declared.print_error.PrintError.TheVariants.{Files, Output}
use Rattle.raft_survey.specs.FileWalks.{IsOneOfBothUnread}
use Rattle.raft_inspect.specs.Openings.{AreRefusedFor, is_refused_read}

-- why what an opening would do isn't found out, but for want of memory: the system refused a read
abbrev pub IsUntried : (FileId → ℕ → List ℕ → Type 0) → (FileId → ℕ → IoError → Type 0) → Version → ℕ → List FileSize → List FileSize → Error → Type 0
IsUntried Gives Fails version workers append rewrite e = (is_refused_read e ≡ true) × AreRefusedFor Gives Fails version workers append rewrite e

-- why files aren't checked, but for want of memory: one of them can't be read when it is scanned, or what an opening would do isn't found out
abbrev pub IsUnchecked : (FileId → ℕ → List ℕ → Type 0) → (FileId → ℕ → IoError → Type 0) → Version → ℕ → List FileSize → List FileSize → Error → Type 0
IsUnchecked Gives Fails version workers append rewrite e =
    IsOneOfBothUnread Gives Fails append rewrite e ⊎ IsUntried Gives Fails version workers append rewrite e

-- the output takes no more, there is no memory, or the files can't be read, for such a reason
abbrev pub IsUnprintedFor : (Error → Type 0) → PrintError → Type 0
IsUnprintedFor IsReason (Files e) = e ≢ Memory → IsReason e
IsUnprintedFor IsReason (Output e) = Unit {0}

-- the output takes no more, or there is no memory
abbrev pub IsUnprinted : PrintError → Type 0
IsUnprinted (Files e) = e ≡ Memory
IsUnprinted (Output e) = Unit {0}
