use Rattle.raft_table.proofs.Facts.{◌≡◌, drop}
use Rattle.raft_table.proofs.memtable.entries.compact_truncate.drop_first_items.Given as goal

abbrev pub invariant-loop : goal.invariant-loop
invariant-loop g l = l.deque.items ≡ drop l.counter l.fn.deque.items
