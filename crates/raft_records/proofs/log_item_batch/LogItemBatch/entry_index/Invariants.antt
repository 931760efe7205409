use Rattle.raft_records.proofs.Common.{◌≡◌, map, drop, item_of, first_entry}
use Rattle.raft_records.proofs.log_item_batch.LogItemBatch.entry_index.Given as goal

-- the items so far have none
abbrev pub invariant-loop-item : goal.invariant-loop-item
invariant-loop-item l =
    first_entry (map item_of (drop l.item-index l.item-items)) ≡ first_entry l.self
