use Rattle.raft_engine.proofs.Common.{◌+◌, ◌∷◌, List, drop, map, subst, sym, ap, ◌∙◌, drop_more, drop_all, item_of}
use Rattle.raft_engine.proofs.MarkerLemmas.{IsMarkerAhead, found_some, none_found, passed_none}
use Rattle.raft_engine.proofs.group_rows.first_marker_of_items.Goals as goal

pub returns-then-is_some-clause-ok : goal.returns-then-is_some-clause-ok
returns-then-is_some-clause-ok c =
    found_some (map item_of c.args.items.now) (map item_of (drop (c.loop-item.item-index + 1) c.args.items.now)) (item_of c.item-item.result) c.in_ok-marker.marker
    (subst (λ (l : List _). IsMarkerAhead (map item_of c.args.items.now) (map item_of l))
    (drop_more c.args.items.now c.loop-item.item-index c.item-item.result c.loop-item-test.true ∙ ap (λ s. s ∷ drop (c.loop-item.item-index + 1) c.args.items.now) (sym c.item-item.is))
    c.loop-item.invariant)
    c.in_ok-marker.ensures.ok (sym c.is_some.ensures ∙ c.if-is_some.true)

pub loop-item-preserved : goal.loop-item-preserved
loop-item-preserved c =
    passed_none (map item_of c.args.items.now) (map item_of (drop (c.loop-item.item-index + 1) c.args.items.now)) (item_of c.item-item.result) c.in_ok-marker.marker
    (subst (λ (l : List _). IsMarkerAhead (map item_of c.args.items.now) (map item_of l))
    (drop_more c.args.items.now c.loop-item.item-index c.item-item.result c.loop-item-test.true ∙ ap (λ s. s ∷ drop (c.loop-item.item-index + 1) c.args.items.now) (sym c.item-item.is))
    c.loop-item.invariant)
    c.in_ok-marker.ensures.ok (sym c.is_some.ensures ∙ c.if-is_some.false)

pub returns-clause-ok : goal.returns-clause-ok
returns-clause-ok c =
    none_found (map item_of c.args.items.now)
    (subst (λ (l : List _). IsMarkerAhead (map item_of c.args.items.now) (map item_of l)) (drop_all c.loop-item.item-index c.args.items.now c.loop-item-test.false) c.loop-item.invariant)
