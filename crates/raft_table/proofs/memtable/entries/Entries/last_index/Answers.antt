use Rattle.raft_table.proofs.Facts.{arith, kept_facts}
use Rattle.raft_table.proofs.memtable.entries.Entries.last_index.Goals as goal

pub returns-then-self-eq0 : goal.returns-then-self-eq0
returns-then-self-eq0 c = rw (← c.self.view_is) ((kept_facts c.self.invariant.0).empty (omega arith))

pub overflow_add-result : goal.overflow_add-result
overflow_add-result c = let b = (kept_facts c.self.invariant.0).bounded (omega arith) in omega arith

pub returns : goal.returns
returns c = let f = (kept_facts c.self.invariant.0).end (omega arith) in rw (← c.self.view_is) (omega arith)
