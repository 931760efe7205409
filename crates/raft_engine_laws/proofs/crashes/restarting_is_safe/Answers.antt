use Rattle.raft_engine_laws.proofs.SafeCrashes.{restarted, restarted_same}
use Rattle.raft_engine_laws.proofs.crashes.restarting_is_safe.Goals as goal

pub returns-clause-same : goal.returns-clause-same
returns-clause-same c = restarted_same

pub returns-clause-other : goal.returns-clause-other
returns-clause-other c = restarted
