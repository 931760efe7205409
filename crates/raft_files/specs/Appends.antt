-- What an append that fails leaves.
use Rattle.std.specs.Prelude.{◌≡◌, List}
use Rattle.raft_base.specs.declared.errors.Error.{Error}
use Rattle.raft_files.specs.declared.append_error.AppendError.{AppendError}
use Rattle.raft_files.specs.declared.append_error.AppendError.TheVariants.{AsBefore, InPart}
use Rattle.raft_files.specs.Asks.{Ask, MayBeAsked}

-- the error for which an append failed
abbrev pub append_fault : AppendError → Error
append_fault (AsBefore e) = e
append_fault (InPart e) = e

-- what an append that failed leaves noted: nothing where it was taken back, so that the files are as if it hadn't been asked; else this, or nothing
abbrev pub IsNotAppended : Ask → AppendError → List Ask → List Ask → Type 0
IsNotAppended a (AsBefore e) old new = new ≡ old
IsNotAppended a (InPart e) old new = MayBeAsked a old new
