use Rattle.raft_engine_laws.proofs.SafeRewrites.{held_safe}
use Rattle.raft_engine_laws.proofs.crashes.open_groups_are_safe.Goals as goal

pub returns : goal.returns
returns c = held_safe
