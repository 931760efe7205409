use Rattle.raft_listing.proofs.Common.{◌+◌, ◌∷◌, List, drop, map, subst, sym, ap, ◌∙◌, drop_more, drop_all, item_of}
use Rattle.raft_listing.proofs.LossLemmas.{IsSaying, all_said, item_said}
use Rattle.raft_listing.proofs.scan.add_batch_losses.Goals as goal

pub loop-item-preserved : goal.loop-item-preserved
loop-item-preserved c =
    item_said c.args.part.now c.args.offset (map item_of c.args.items.now) c.args.damages.now.items (item_of c.item-item.result) (map item_of (drop (c.loop-item.item-index + 1) c.args.items.now))
    c.loop-item.damages.items c.add_item_losses.new.damages.items
    (subst (λ (l : List _). IsSaying c.args.part.now c.args.offset (map item_of c.args.items.now) c.args.damages.now.items (map item_of l) c.loop-item.damages.items)
    (drop_more c.args.items.now c.loop-item.item-index c.item-item.result c.loop-item-test.true ∙ ap (λ s. s ∷ drop (c.loop-item.item-index + 1) c.args.items.now) (sym c.item-item.is))
    c.loop-item.invariant)
    c.in_ok-add_item_losses.ensures.ok

pub returns-clause-ok : goal.returns-clause-ok
returns-clause-ok c =
    all_said c.args.part.now c.args.offset (map item_of c.args.items.now) c.args.damages.now.items c.loop-item.damages.items
    (subst (λ (l : List _). IsSaying c.args.part.now c.args.offset (map item_of c.args.items.now) c.args.damages.now.items (map item_of l) c.loop-item.damages.items)
    (drop_all c.loop-item.item-index c.args.items.now c.loop-item-test.false) c.loop-item.invariant)
