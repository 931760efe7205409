use Rattle.raft_table.proofs.Facts.{refl, below_zero}
use Rattle.raft_table.proofs.memtable.MemTable.drop_entries_by_mark.Goals as goal

pub returns-then-gone-clause-left : goal.returns-then-gone-clause-left
returns-then-gone-clause-left c = rw (← c.self.view_is, c.truncate_from.ensures.entries, below_zero, c.if-gone.true) refl
