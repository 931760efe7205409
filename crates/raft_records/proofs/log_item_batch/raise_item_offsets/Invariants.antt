use Rattle.raft_records.proofs.Common.{◌≡◌, ◌++◌, map, take, drop, item_of, raised_item}
use Rattle.raft_records.proofs.log_item_batch.raise_item_offsets.Given as goal

-- the items so far are raised
abbrev pub invariant-loop-item : goal.invariant-loop-item
invariant-loop-item l =
    map item_of l.item-items ≡ map (raised_item l.by) (take l.item-index (map item_of l.fn.items.items)) ++ drop l.item-index (map item_of l.fn.items.items)
