use Rattle.raft_engine.proofs.Common.{◌≡◌, ◌++◌, drop, map, item_of, empty_batch, taking_items, told_items}
use Rattle.raft_engine.proofs.untold.removals_by_items.Given as goal

-- what is told so far, and what is told of the items that are left, is told of all
abbrev pub invariant-loop-item : goal.invariant-loop-item
invariant-loop-item l =
    (l.taken ≡ record empty_batch { items = l.taken.items })
    × (l.taken.items ++ told_items (taking_items l.accessor.tables (map item_of (drop l.item-index l.items))) ≡ told_items (taking_items l.accessor.tables (map item_of l.items)))
