use Rattle.raft_records.proofs.Common.{◌≡◌, ◌++◌, length, map, take, ap, ◌∙◌, append_assoc, arith, flat_map, take_all, length-map, varint, item_of, item_bytes, item_batch_bytes, no_checksum}
use Rattle.raft_records.proofs.log_item_batch.write_items.Goals as goal

pub returns-clause-ok : goal.returns-clause-ok
unfolding item_batch_bytes
returns-clause-ok c =
    let whole : take c.loop-item.item-index c.args.items.now ≡ c.args.items.now = take_all c.loop-item.item-index c.args.items.now (omega arith) in
    let written = c.loop-item.invariant ∙ ap (λ xs. c.args.buf.now.items ++ (varint (length c.args.items.now) ++ flat_map item_bytes (map item_of xs))) whole in
    rw (length-map c.args.items.now item_of) (c.in_ok-extend_from_slice.ensures.items ∙ ap (λ t. t ++ no_checksum) written
    ∙ append_assoc c.args.buf.now.items (varint (length c.args.items.now) ++ flat_map item_bytes (map item_of c.args.items.now)) no_checksum)
