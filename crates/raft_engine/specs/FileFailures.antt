-- With which errors calls of files fail.
use Rattle.std.specs.Prelude.{◌≡◌, List, ◌∷◌, ◌++◌}
use Rattle.raft_base.specs.declared.errors.Error.{Error}
use Rattle.raft_files.specs.Asks.{Ask, MayBeAsked, failed_ask}

-- with which errors calls of files may fail that ask this, behind all that was asked so far
abbrev pub Failures : Type 1
Failures = List Ask → Ask → Error → Type 0

-- The wanted asks, newest first, were made in order up to one; the call for that one failed with this error, and may have made it or not; of a sync it may be noted that it failed.
pub record FailsAmong (MayFail : Failures) (wanted old new : List Ask) (e : Error) : Type 0 where
  pub later : List Ask
  pub failed : Ask
  pub earlier : List Ask
  pub split : wanted ≡ later ++ failed ∷ earlier
  pub asked : MayBeAsked (failed_ask failed) (earlier ++ old) new
  pub why : MayFail (earlier ++ old) failed e
