use Rattle.raft_table.proofs.Facts.{◌≡◌, ◌+◌, ◌≤◌, ◌++◌, take, drop, deque_len}
use Rattle.raft_table.proofs.memtable.entries.block_deques.overwrite_items.Given as goal

abbrev pub invariant-loop-item : goal.invariant-loop-item
invariant-loop-item g l =
    (take l.next l.deque.items ++ l.more.items ++ drop (l.next + deque_len l.more) l.deque.items
    ≡ take l.fn.at l.fn.deque.items ++ l.fn.more.items ++ drop (l.fn.at + deque_len l.fn.more) l.fn.deque.items)
    × (l.next + deque_len l.more ≤ deque_len l.deque)

abbrev pub decreases-loop-item : goal.decreases-loop-item
decreases-loop-item g l = deque_len l.more
