use Rattle.raft_table.proofs.Facts.{arith, Rewrite}
use Rattle.raft_table.proofs.global_stats.GlobalStats.add_unmoved.Goals as goal

pub delete-requires : goal.delete-requires
delete-requires c = omega (arith, c.add_fitting.ensures.live Rewrite)
