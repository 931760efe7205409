use Rattle.raft_table.proofs.Facts.{untruncated_overlay}
use Rattle.raft_table.proofs.memtable.run.overlays_reach_without_truncations.Goals as goal

pub returns : goal.returns
returns c = untruncated_overlay
