use Rattle.raft_contexts.proofs.Common.{◌+◌, ap, subst, sym, ◌∙◌, map, drop, drop_of_length-le, option_or, first_marker, item_of}
use Rattle.raft_contexts.proofs.BatchCheckLemmas.{IsTested, next_item, one_more, or_none}
use Rattle.raft_contexts.proofs.batch_check.parse_first_group_marker.Goals as goal

pub loop-item-preserved : goal.loop-item-preserved
loop-item-preserved c =
    let next = ap (map item_of) (next_item c.args.items.now c.loop-item.item-index c.item-item.result c.loop-item-test.true c.item-item.is) in
    let before = subst (λ rest. IsTested (map item_of c.args.items.now) rest c.loop-item.marker) next c.loop-item.invariant in
    subst (IsTested (map item_of c.args.items.now) (map item_of (drop (c.loop-item.item-index + 1) c.args.items.now))) (sym c.or-marker.ensures)
    (one_more (map item_of c.args.items.now) (map item_of (drop (c.loop-item.item-index + 1) c.args.items.now)) (item_of c.item-item.result) c.loop-item.marker c.in_ok-found.found before c.in_ok-found.ensures.ok)

pub returns-clause-marker : goal.returns-clause-marker
returns-clause-marker c = sym (or_none c.loop-item.marker) ∙ ap (λ rest. option_or c.loop-item.marker (first_marker (map item_of rest)))
    (sym (drop_of_length-le c.args.items.now c.loop-item-test.false)) ∙ c.loop-item.invariant.2
