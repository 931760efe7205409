use Rattle.raft_table.proofs.Facts.{◌≡◌, ℕ, ◌-◌, ◌≤◌, ◌<◌, List, ◌++◌, length, map, take, drop, EntryIndex, blocks_shown, entries_in_blocks, without_span, IsAt}
use Rattle.raft_table.proofs.memtable.entries.block_walks.set_spans.Given as goal

abbrev pub invariant-loop-done : goal.invariant-loop-done
invariant-loop-done l =
    (l.start ≤ l.done) × (l.done ≤ l.end)
    × (l.done < l.end → IsAt l.done (blocks_shown l.blocks.items) l.nth l.at)
    × (length l.vec.items ≡ length l.initial.vec.items)
    × ((i : ℕ) (front : List EntryIndex) → length front ≡ l.len → l.initial.vec.items ≡ front ++ map without_span (drop l.start (take l.end (entries_in_blocks i (blocks_shown l.blocks.items))))
    → l.vec.items ≡ (front ++ drop l.start (take l.done (entries_in_blocks i (blocks_shown l.blocks.items)))) ++ map without_span (drop l.done (take l.end (entries_in_blocks i (blocks_shown l.blocks.items)))))

abbrev pub decreases-loop-done : goal.decreases-loop-done
decreases-loop-done l = l.end - l.done
