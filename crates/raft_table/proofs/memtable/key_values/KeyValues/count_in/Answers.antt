use Rattle.raft_table.proofs.Facts.{arith, rewritten-le-len, appended-shown}
use Rattle.raft_table.proofs.memtable.key_values.KeyValues.count_in.Goals as goal

pub overflow_sub-result : goal.overflow_sub-result
overflow_sub-result c = omega (arith, rewritten-le-len c.self.inside c.self.invariant)

pub returns-in-Append : goal.returns-in-Append
returns-in-Append c = rw c.in-Append.is (omega (arith, appended-shown c.self.inside c.args.self.now c.self.invariant c.self.view_is))
