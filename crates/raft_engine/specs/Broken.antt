-- Where files fail: no engine is made, or one isn't intact any more.
use Rattle.std.specs.Prelude.{◌≡◌, ◌⊎◌, true, false, List, [], ◌∷◌}
use Rattle.raft_base.specs.declared.errors.Error.{Error}
use Rattle.raft_base.specs.declared.errors.Error.TheVariants as errors
use Rattle.raft_base.specs.declared.pipe_log.LogQueue.TheVariants.{Append, Rewrite}
use Rattle.raft_files.specs.Asks.{Ask, Begin, ask}
use Rattle.raft_engine.specs.FileFailures.{Failures, FailsAmong}
use Rattle.raft_engine.specs.KeptEngine.{KeptEngine}

-- why no engine is made: the error is `Memory`, or the files fail to begin the first file of a queue, of the append queue first
abbrev pub IsFirstFault : Failures → Error → Type 0
IsFirstFault MayFail e =
    (e ≡ errors.Memory) ⊎ MayFail [] (ask Append (Begin 1)) e ⊎ MayFail (ask Append (Begin 1) ∷ []) (ask Rewrite (Begin 1)) e

-- the files of an intact engine fail at one of these wanted asks, newest first, and it isn't intact any more; nothing else is changed
pub record IsBroken (MayFail : Failures) (wanted : List Ask) (old new : KeptEngine) (e : Error) : Type 0 where
  pub was : old.intact ≡ true
  pub failed : FailsAmong MayFail wanted old.asks new.asks e
  pub others : new ≡ record old { asks = new.asks; intact = false }

-- the same, but nothing is said of what is untold: it may be told in part
abbrev pub IsBrokenTelling : Failures → List Ask → KeptEngine → KeptEngine → Error → Type 0
IsBrokenTelling MayFail wanted old new e = IsBroken MayFail wanted old (record new { untold = old.untold }) e
