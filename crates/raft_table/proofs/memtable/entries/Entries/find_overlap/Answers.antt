use Rattle.raft_table.proofs.Facts.{arith, kept_facts}
use Rattle.raft_table.proofs.memtable.entries.Entries.find_overlap.Goals as goal

pub returns-then-self-eq0-clause-meets : goal.returns-then-self-eq0-clause-meets
returns-then-self-eq0-clause-meets c = let l = (kept_facts c.self.invariant.0).length in rw (← c.self.view_is) (omega arith)

pub overflow_add-end : goal.overflow_add-end
overflow_add-end c = let b = (kept_facts c.self.invariant.0).bounded (omega arith) in omega arith

pub returns-then-to-from-clause-meets : goal.returns-then-to-from-clause-meets
returns-then-to-from-clause-meets c = let l = (kept_facts c.self.invariant.0).length in let s = (kept_facts c.self.invariant.0).start (omega arith) in rw (← c.self.view_is) (omega arith)

pub returns-clause-meets : goal.returns-clause-meets
returns-clause-meets c =
    let l = (kept_facts c.self.invariant.0).length in
    let s = (kept_facts c.self.invariant.0).start (omega arith) in
    rw (← c.self.view_is, l, s) (record { in_entries = omega arith; in_run = omega arith; end = omega arith; some = omega arith })
