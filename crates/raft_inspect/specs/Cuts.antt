-- What is asked of files to cut off what an opening would.
use Rattle.std.specs.Prelude.{◌≡◌, ◌≢◌, ◌⊎◌, ℕ, List, [], ◌∷◌, ◌++◌, Option, Some, None}
use Rattle.raft_base.specs.declared.errors.Error.{Error}
use Rattle.raft_base.specs.declared.errors.Error.TheVariants.{Memory}
use Rattle.raft_base.specs.declared.pipe_log.FileId.{FileId}
use Rattle.raft_base.specs.declared.pipe_log.LogQueue.{LogQueue}
use Rattle.raft_base.specs.declared.pipe_log.LogQueue.TheVariants.{Append, Rewrite}
use Rattle.raft_base.specs.declared.pipe_log.Version.{Version}
use Rattle.raft_files.specs.Asks.{Ask, Cut, ask}
use Rattle.raft_reading.specs.IoErrors.{IoError}
use Rattle.raft_reading.specs.declared.queue_files.FileSize.{FileSize}
use Rattle.raft_engine.specs.OpeningAsks.{Failures, FailsAmong}
use Rattle.raft_engine.specs.declared.recovered.CutTail.{CutTail}
use Rattle.raft_report.specs.declared.print_error.PrintError.{PrintError}
use Rattle.raft_report.specs.declared.print_error.PrintError.TheVariants.{Files, Output}
use Rattle.raft_inspect.specs.Faults.{IsUntried}
use Rattle.raft_inspect.specs.Openings.{IsOpeningOf}
use Rattle.raft_inspect.specs.declared.opening.Opening.{Opening}
use Rattle.raft_inspect.specs.declared.opening.Opening.TheVariants.{Opens, Refuses}

-- that the last file of a queue is cut where its tail begins, if it has one
abbrev pub cut_asked : LogQueue → Option CutTail → List Ask
cut_asked queue None = []
cut_asked queue (Some tail) = ask queue (Cut tail.offset) ∷ []

-- that what an opening would cut off is cut, newest first: nothing where it refuses the files
abbrev pub opening_cuts : Opening → List Ask
opening_cuts (Refuses error) = []
opening_cuts (Opens recovered) = cut_asked Rewrite recovered.rewrite ++ cut_asked Append recovered.append

-- this is what an opening of files of these sizes would do, and of files that asked what it would cut off is cut, and nothing else
pub record IsCutAsOpened (Gives : FileId → ℕ → List ℕ → Type 0) (Fails : FileId → ℕ → IoError → Type 0) (version : Version) (workers : ℕ) (append rewrite : List FileSize) (old new : List Ask) (opening : Opening) : Type 0 where
  pub opens : IsOpeningOf Gives Fails version workers append rewrite opening
  pub asked : new ≡ opening_cuts opening ++ old

-- of what an opening of files of these sizes would cut off all was asked that is older than one cut, whose call failed with this error
pub record IsHalfCut (MayFail : Failures) (Gives : FileId → ℕ → List ℕ → Type 0) (Fails : FileId → ℕ → IoError → Type 0) (version : Version) (workers : ℕ) (append rewrite : List FileSize) (old new : List Ask) (e : Error) : Type 0 where
  pub opening : Opening
  pub opens : IsOpeningOf Gives Fails version workers append rewrite opening
  pub failed : FailsAmong MayFail (opening_cuts opening) old new e

-- why nothing is cut: there is no memory, or what an opening would do isn't found out
abbrev pub IsNothingCut : (FileId → ℕ → List ℕ → Type 0) → (FileId → ℕ → IoError → Type 0) → Version → ℕ → List FileSize → List FileSize → Error → Type 0
IsNothingCut Gives Fails version workers append rewrite e = e ≢ Memory → IsUntried Gives Fails version workers append rewrite e

-- why not all is cut: the output takes no more, or nothing can be cut, and nothing was asked; or a cut failed
abbrev pub IsCutFault : Failures → (FileId → ℕ → List ℕ → Type 0) → (FileId → ℕ → IoError → Type 0) → Version → ℕ → List FileSize → List FileSize → List Ask → List Ask → PrintError → Type 0
IsCutFault MayFail Gives Fails version workers append rewrite old new (Output e) = new ≡ old
IsCutFault MayFail Gives Fails version workers append rewrite old new (Files e) =
    (IsNothingCut Gives Fails version workers append rewrite e × (new ≡ old)) ⊎ IsHalfCut MayFail Gives Fails version workers append rewrite old new e
