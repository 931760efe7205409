use Rattle.raft_table.proofs.Facts.{◌≡◌, ◌+◌, ◌++◌, length, take, drop, deque_iter_rest, with_spans}
use Rattle.raft_table.proofs.memtable.entries.block_walks.set_spans_of_block.Given as goal

abbrev pub invariant-loop-span : goal.invariant-loop-span
invariant-loop-span l =
    (take l.i l.vec.items ++ with_spans (deque_iter_rest l.span-iterator) (drop l.i l.vec.items) ≡ take l.len l.initial.vec.items ++ with_spans (take l.count (drop l.at l.block.spans.items)) (drop l.len l.initial.vec.items))
    × (l.i + length (deque_iter_rest l.span-iterator) ≡ l.len + l.count)
    × (length l.vec.items ≡ length l.initial.vec.items)
