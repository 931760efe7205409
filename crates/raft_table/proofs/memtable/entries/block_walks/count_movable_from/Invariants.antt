use Rattle.raft_table.proofs.Facts.{◌≡◌, ◌+◌, ◌-◌, ◌≤◌, ◌<◌, ℕ, take, drop, prefix_len, blocks_shown, entries_in_blocks, IsAt, may_move}
use Rattle.raft_table.proofs.memtable.entries.block_walks.count_movable_from.Given as goal

abbrev pub invariant-loop-done : goal.invariant-loop-done
invariant-loop-done l =
    (l.start ≤ l.done) × (l.done ≤ l.end)
    × (l.done < l.end → IsAt l.done (blocks_shown l.blocks.items) l.nth l.at)
    × ((i : ℕ) → prefix_len (may_move l.gate) (drop l.start (take l.end (entries_in_blocks i (blocks_shown l.blocks.items)))) + l.start
    ≡ l.done + prefix_len (may_move l.gate) (drop l.done (take l.end (entries_in_blocks i (blocks_shown l.blocks.items)))))

abbrev pub decreases-loop-done : goal.decreases-loop-done
decreases-loop-done l = l.end - l.done
