use Rattle.raft_records.proofs.Common.{◌≡◌, length, map, ap, sym, ◌∙◌, arith, length-map, item_of, placed_item}
use Rattle.raft_records.proofs.BatchLemmas.{map_view_more}
use Rattle.raft_records.proofs.log_item_batch.set_item_places.Goals as goal

pub loop-item-preserved : goal.loop-item-preserved
loop-item-preserved c =
    let lens : length (map item_of c.args.items.now.items) ≡ length c.loop-item.item-items = omega (arith, length-map c.args.items.now.items item_of, c.loop-item.auto.item-items, ap length c.deref_mut-item-items.ensures.value) in
    map_view_more item_of (placed_item c.args.handle c.args.compression_type) (map item_of c.args.items.now.items) c.loop-item.item-items
    c.loop-item.item-index c.item-item.result c.set_place.new.self (omega arith) lens c.loop-item.invariant c.item-item.is
    (c.set_place.ensures ∙ ap (λ v. placed_item c.args.handle c.args.compression_type (item_of v)) (sym c.item-item.is))
