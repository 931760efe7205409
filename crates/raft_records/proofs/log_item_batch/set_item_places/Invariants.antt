use Rattle.raft_records.proofs.Common.{◌≡◌, ◌++◌, map, take, drop, item_of, placed_item}
use Rattle.raft_records.proofs.log_item_batch.set_item_places.Given as goal

-- the items so far have their place
abbrev pub invariant-loop-item : goal.invariant-loop-item
invariant-loop-item l =
    map item_of l.item-items ≡ map (placed_item l.handle l.compression_type) (take l.item-index (map item_of l.fn.items.items)) ++ drop l.item-index (map item_of l.fn.items.items)
