use Rattle.raft_engine_laws.proofs.KeptRewrites.{held_kept}
use Rattle.raft_engine_laws.proofs.groups.open_groups_change_nothing.Goals as goal

pub returns : goal.returns
returns c = held_kept
