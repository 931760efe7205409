use Rattle.raft_engine_laws.proofs.SafeCrashes.{lose_nothing}
use Rattle.raft_engine_laws.proofs.crashes.nothing_is_lost.Goals as goal

pub returns : goal.returns
returns c = lose_nothing
