use Rattle.raft_table.proofs.Facts.{arith, kept_facts}
use Rattle.raft_table.proofs.memtable.entries.Entries.count_in.Goals as goal

pub overflow_sub-result : goal.overflow_sub-result
overflow_sub-result c = let f = (kept_facts c.self.invariant.0).both in omega arith

pub returns-in-Append : goal.returns-in-Append
returns-in-Append c = let f = (kept_facts c.self.invariant.0).both in rw (← c.self.view_is, c.in-Append.is) (omega arith)
