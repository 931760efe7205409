use Rattle.raft_engine_laws.proofs.SafeWrites.{none_safe}
use Rattle.raft_engine_laws.proofs.crashes.empty_queues_are_safe.Goals as goal

pub returns : goal.returns
returns c = none_safe
