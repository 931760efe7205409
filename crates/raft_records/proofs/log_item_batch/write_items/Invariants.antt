use Rattle.raft_records.proofs.Common.{◌≡◌, ◌++◌, map, take, length, flat_map, varint, item_of, item_bytes}
use Rattle.raft_records.proofs.log_item_batch.write_items.Given as goal

-- the count and the items so far stand behind the old bytes
abbrev pub invariant-loop-item : goal.invariant-loop-item
invariant-loop-item l =
    l.buf.items ≡ l.fn.buf.items ++ (varint (length l.items) ++ flat_map item_bytes (map item_of (take l.item-index l.items)))
