use Rattle.raft_table.proofs.Facts.{◌≡◌, ◌-◌, ◌≤◌, length, take, drop, deque_len, deque_capacity}
use Rattle.raft_table.proofs.memtable.entries.block_deques.copy_spans_after.Given as goal

abbrev pub invariant-loop-i : goal.invariant-loop-i
invariant-loop-i l =
    (l.behind.items ≡ drop l.dropped (take l.i l.spans.items)) × (deque_len l.behind ≡ l.i - l.dropped) × (length l.spans.items - l.dropped ≤ deque_capacity l.behind)
