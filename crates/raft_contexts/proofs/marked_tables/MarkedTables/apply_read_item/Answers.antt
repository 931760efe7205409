use Rattle.raft_contexts.proofs.Common.{◌∷◌, [], Ok, subst, Item, item_shown, steps_of_items, AreStepsTaken}
use Rattle.raft_contexts.proofs.TakenLemmas.{not_tried, tried}
use Rattle.raft_contexts.proofs.marked_tables.MarkedTables.apply_read_item.Goals as goal

pub to_item-requires : goal.to_item-requires
to_item-requires c = c.requires.decoded

pub returns-then-try_apply_put : goal.returns-then-try_apply_put
returns-then-try_apply_put c =
    let steps = steps_of_items (item_shown c.args.place c.args.item.now c.args.spans.now ∷ []) in
    not_tried c.args.queue steps c.args.self.now c.try_apply_spans.new.self c.try_apply_put.new.self (Ok tt) _ c.if-branch.false c.in_ok-try_apply_spans.ensures
    (tried c.args.queue steps c.try_apply_spans.new.self c.try_apply_put.new.self c.try_apply_put.result c.if-try_apply_put.true (c.try_apply_put.ensures c.args.queue c.args.spans.now))

pub returns : goal.returns
returns c =
    let steps = steps_of_items (item_shown c.args.place c.args.item.now c.args.spans.now ∷ []) in
    not_tried c.args.queue steps c.args.self.now c.try_apply_spans.new.self c.apply_item.new.self c.apply_item.result _ c.if-branch.false c.in_ok-try_apply_spans.ensures
    (not_tried c.args.queue steps c.try_apply_spans.new.self c.try_apply_put.new.self c.apply_item.new.self c.apply_item.result c.try_apply_put.result c.if-try_apply_put.false (c.try_apply_put.ensures c.args.queue c.args.spans.now)
    (subst (λ (i : Item). AreStepsTaken c.args.queue (steps_of_items (i ∷ [])) c.apply_item.result c.try_apply_put.new.self c.apply_item.new.self) c.in_ok-item.ensures.ok c.apply_item.ensures))
