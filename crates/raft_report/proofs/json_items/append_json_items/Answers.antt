use Rattle.raft_report.proofs.Common.{◌+◌, ◌∷◌, List, drop, map, subst, string_bytes, sym, ap, ◌∙◌, drop_more, drop_all, item_of}
use Rattle.raft_report.proofs.AddedLemmas.{AreItemsAdding, item_more, items_added}
use Rattle.raft_report.proofs.json_items.append_json_items.Goals as goal

pub loop-item-preserved : goal.loop-item-preserved
loop-item-preserved c =
    item_more c.args.selection.now c.args.part.now c.args.at (map item_of c.args.items.now) (string_bytes c.args.text.now) (item_of c.item-item.result) (map item_of (drop (c.loop-item.item-index + 1) c.args.items.now))
    (string_bytes c.loop-item.text) (string_bytes c.append_item_if_selected.new.text)
    (subst (λ (l : List _). AreItemsAdding c.args.selection.now c.args.part.now c.args.at (map item_of c.args.items.now) (string_bytes c.args.text.now) (map item_of l) (string_bytes c.loop-item.text))
    (drop_more c.args.items.now c.loop-item.item-index c.item-item.result c.loop-item-test.true ∙ ap (λ s. s ∷ drop (c.loop-item.item-index + 1) c.args.items.now) (sym c.item-item.is))
    c.loop-item.invariant)
    c.in_ok-append_item_if_selected.ensures.ok

pub returns-clause-ok : goal.returns-clause-ok
returns-clause-ok c =
    items_added c.args.selection.now c.args.part.now c.args.at (map item_of c.args.items.now) (string_bytes c.args.text.now) (string_bytes c.loop-item.text)
    (subst (λ (l : List _). AreItemsAdding c.args.selection.now c.args.part.now c.args.at (map item_of c.args.items.now) (string_bytes c.args.text.now) (map item_of l) (string_bytes c.loop-item.text))
    (drop_all c.loop-item.item-index c.args.items.now c.loop-item-test.false) c.loop-item.invariant)
