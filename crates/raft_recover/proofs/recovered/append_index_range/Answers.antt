use Rattle.raft_recover.proofs.Common.{arith, end_bounded}
use Rattle.raft_recover.proofs.recovered.append_index_range.Goals as goal

pub overflow_add-end : goal.overflow_add-end
overflow_add-end c = omega (arith, c.in-Some-Some.ensures', end_bounded c.args.table.now.entries c.holds_one_run.ensures.consecutive.bounded)
