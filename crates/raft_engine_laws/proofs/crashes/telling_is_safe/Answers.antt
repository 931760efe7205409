use Rattle.raft_engine_laws.proofs.SafeRewrites.{told_safe}
use Rattle.raft_engine_laws.proofs.SafeWrites.{untold_same, untold_fewer}
use Rattle.raft_engine_laws.proofs.crashes.telling_is_safe.Goals as goal

pub returns-clause-told : goal.returns-clause-told
returns-clause-told c = told_safe

pub returns-clause-same : goal.returns-clause-same
returns-clause-same c = untold_same

pub returns-clause-quiet : goal.returns-clause-quiet
returns-clause-quiet c = untold_fewer
