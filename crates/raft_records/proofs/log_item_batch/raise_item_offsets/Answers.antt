use Rattle.raft_records.proofs.Common.{◌≡◌, length, map, refl, ap, subst, sym, ◌∙◌, arith, length-map, item_of, content_of, raised_item, CanRaiseContent, entry_bytes_of}
use Rattle.raft_records.proofs.BatchLemmas.{map_view_more, seen_at}
use Rattle.raft_records.proofs.LayLemmas.{raise_next}
use Rattle.raft_records.proofs.log_item_batch.raise_item_offsets.Goals as goal

pub raise_offsets-requires : goal.raise_offsets-requires
raise_offsets-requires c =
    let seen = seen_at item_of c.loop-item.item-items c.loop-item.item-index c.item-item.result (omega arith) c.item-item.is in
    let next = raise_next c.args.by (entry_bytes_of (map item_of c.args.items.now.items)) c.loop-item.item-index (map item_of c.args.items.now.items)
    (map item_of c.loop-item.item-items) (item_of c.item-item.result)
    (omega (arith, length-map c.args.items.now.items item_of, ap length c.deref_mut-item-items.ensures.value)) c.loop-item.invariant seen
    c.requires.fit refl c.requires.room in
    subst (λ v. CanRaiseContent c.args.by (content_of v.content)) c.item-item.is next

pub loop-item-preserved : goal.loop-item-preserved
loop-item-preserved c =
    let lens : length (map item_of c.args.items.now.items) ≡ length c.loop-item.item-items = omega (arith, length-map c.args.items.now.items item_of, c.loop-item.auto.item-items, ap length c.deref_mut-item-items.ensures.value) in
    map_view_more item_of (raised_item c.args.by) (map item_of c.args.items.now.items) c.loop-item.item-items c.loop-item.item-index
    c.item-item.result c.raise_offsets.new.self (omega arith) lens c.loop-item.invariant c.item-item.is
    (c.raise_offsets.ensures ∙ ap (λ v. raised_item c.args.by (item_of v)) (sym c.item-item.is))
