use Rattle.raft_table.proofs.Facts.{◌≡◌, ◌+◌, ◌≤◌, length, take, deque_len, deque_capacity, blocks_shown, count, starts_of}
use Rattle.raft_table.proofs.memtable.entries.block_deques.push_starts.Given as goal

abbrev pub invariant-loop-i : goal.invariant-loop-i
invariant-loop-i l =
    (l.starts.items ≡ starts_of l.first (take l.i (blocks_shown l.blocks.items)))
    × (l.index ≡ l.first + count (take l.i (blocks_shown l.blocks.items)))
    × (deque_len l.starts ≡ l.i)
    × (length l.blocks.items ≤ deque_capacity l.starts)
