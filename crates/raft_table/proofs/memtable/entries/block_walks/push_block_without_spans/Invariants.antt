use Rattle.raft_table.proofs.Facts.{◌≡◌, ◌+◌, ◌-◌, ◌++◌, map, take, drop, vec_len, vec_capacity, entries_of_block, without_span}
use Rattle.raft_table.proofs.memtable.entries.block_walks.push_block_without_spans.Given as goal

abbrev pub invariant-loop-index : goal.invariant-loop-index
invariant-loop-index l =
    (l.vec.items ++ map without_span
    (entries_of_block l.index l.block.handle (drop (l.index - l.first) (take l.count (drop l.at l.block.spans.items)))) ≡ l.initial.vec.items ++
    map without_span (entries_of_block l.first l.block.handle (take l.count (drop l.at l.block.spans.items))))
    × (vec_len l.vec ≡ vec_len l.initial.vec + (l.index - l.first))
    × (vec_capacity l.vec ≡ vec_capacity l.initial.vec)
