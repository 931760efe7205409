use Rattle.raft_table.proofs.Facts.{◌≡◌, ◌+◌, ◌-◌, ◌≤◌, ◌<◌, ◌++◌, map, take, drop, vec_len, vec_capacity, blocks_shown, entries_in_blocks, without_span, IsAt}
use Rattle.raft_table.proofs.memtable.entries.block_walks.push_without_spans.Given as goal

abbrev pub invariant-loop-done : goal.invariant-loop-done
invariant-loop-done l =
    (l.start ≤ l.done) × (l.done ≤ l.end)
    × (l.done < l.end → IsAt l.done (blocks_shown l.blocks.items) l.nth l.at)
    × (vec_len l.vec ≡ vec_len l.initial.vec + (l.done - l.start)) × (vec_capacity l.vec ≡ vec_capacity l.initial.vec)
    × (l.vec.items ≡ l.initial.vec.items ++ map without_span (drop l.start (take l.done (entries_in_blocks l.first (blocks_shown l.blocks.items)))))

abbrev pub decreases-loop-done : goal.decreases-loop-done
decreases-loop-done l = l.end - l.done
