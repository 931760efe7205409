use Rattle.raft_table.proofs.Facts.{◌≡◌, ◌-◌, ◌*◌, ◌^◌, ◌≤◌, ◌<◌, false, ℕ, take, drop, Some, blocks_shown, entries_in_blocks, IsAt, total_len, is_too_many}
use Rattle.raft_table.proofs.memtable.entries.block_walks.count_within_limit_from.Given as goal

abbrev pub invariant-loop-i : goal.invariant-loop-i
invariant-loop-i l =
    (l.i < l.end → IsAt l.i (blocks_shown l.blocks.items) l.spot.0 l.spot.1)
    × (l.total ≤ (l.i - l.start) * 2 ^ 32)
    × ((j : ℕ) → l.total ≡ total_len (l.i - l.start) (drop l.start (take l.end (entries_in_blocks j (blocks_shown l.blocks.items)))))
    × ((j n : ℕ) → n < l.i - l.start → is_too_many (Some l.limit) n (drop l.start (take l.end (entries_in_blocks j (blocks_shown l.blocks.items)))) ≡ false)
