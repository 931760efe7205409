use Rattle.raft_contexts.proofs.Common.{[], ◌∷◌, length, Ok, Err, map, refl, ap, subst, arith, err_from_is_err_and, item_of, steps_of_items, AreStepsTaken}
use Rattle.raft_contexts.proofs.TakenLemmas.{rest_of_queue, each_more, each_refused, no_items, tried, not_tried}
use Rattle.raft_contexts.proofs.WaitingItemLemmas.{split_items}
use Rattle.raft_contexts.proofs.marked_tables.MarkedTables.apply_each_item.Goals as goal

pub loop-item-preserved-in_ok-apply_item : goal.loop-item-preserved-in_ok-apply_item
loop-item-preserved-in_ok-apply_item c =
    let at = c.loop-item.invariant in
    let is = c.in-Some.ensures.steps in (
      rest_of_queue c.args.queue _ _ _ (split_items c.in-Some.item _ _ is.0) at.0,
      omega (arith, at.1, is.1, ap length is.0),
      λ r d t. at.2 r d (each_more c.args.queue _ _ _ c.loop-item.self c.apply_item.new.self d r (split_items c.in-Some.item _ _ is.0) at.0
          (not_tried c.args.queue (steps_of_items (item_of c.in-Some.item ∷ [])) _ c.try_apply_run.new.self _ _ _ c.if-not-branch.true
          c.in_ok-try_apply_run.ensures c.in_ok-apply_item.ensures) t),
    )

pub loop-item-preserved-else-not-branch : goal.loop-item-preserved-else-not-branch
loop-item-preserved-else-not-branch c =
    let at = c.loop-item.invariant in
    let is = c.in-Some.ensures.steps in (
      rest_of_queue c.args.queue _ _ _ (split_items c.in-Some.item _ _ is.0) at.0,
      omega (arith, at.1, is.1, ap length is.0),
      λ r d t. at.2 r d (each_more c.args.queue _ _ _ c.loop-item.self c.try_apply_run.new.self d r (split_items c.in-Some.item _ _ is.0) at.0
          (tried c.args.queue (steps_of_items (item_of c.in-Some.item ∷ [])) _ _ _ c.if-not-branch.false c.in_ok-try_apply_run.ensures) t),
    )

pub loop-item-preserved : goal.loop-item-preserved
loop-item-preserved c =
    let at = c.loop-item.invariant in
    let is = c.in-Some.ensures.steps in (
      rest_of_queue c.args.queue _ _ _ (split_items c.in-Some.item _ _ is.0) at.0,
      omega (arith, at.1, is.1, ap length is.0),
      λ r d t. at.2 r d (each_more c.args.queue _ _ _ c.loop-item.self c.try_apply_run.new.self d r (split_items c.in-Some.item _ _ is.0) at.0
          (tried c.args.queue (steps_of_items (item_of c.in-Some.item ∷ [])) _ _ _ c.if-not-branch.false c.in_ok-try_apply_run.ensures) t),
    )

pub loop-item-preserved-else-not-branch-2 : goal.loop-item-preserved-else-not-branch-2
loop-item-preserved-else-not-branch-2 c =
    let at = c.loop-item.invariant in
    let is = c.in-Some.ensures.steps in (
      rest_of_queue c.args.queue _ _ _ (split_items c.in-Some.item _ _ is.0) at.0,
      omega (arith, at.1, is.1, ap length is.0),
      λ r d t. at.2 r d (each_more c.args.queue _ _ _ c.loop-item.self c.try_apply_run.new.self d r (split_items c.in-Some.item _ _ is.0) at.0
          (tried c.args.queue (steps_of_items (item_of c.in-Some.item ∷ [])) _ _ _ c.if-not-branch.false c.in_ok-try_apply_run.ensures) t),
    )

pub loop-item-preserved-else-not-branch-3 : goal.loop-item-preserved-else-not-branch-3
loop-item-preserved-else-not-branch-3 c =
    let at = c.loop-item.invariant in
    let is = c.in-Some.ensures.steps in (
      rest_of_queue c.args.queue _ _ _ (split_items c.in-Some.item _ _ is.0) at.0,
      omega (arith, at.1, is.1, ap length is.0),
      λ r d t. at.2 r d (each_more c.args.queue _ _ _ c.loop-item.self c.try_apply_run.new.self d r (split_items c.in-Some.item _ _ is.0) at.0
          (tried c.args.queue (steps_of_items (item_of c.in-Some.item ∷ [])) _ _ _ c.if-not-branch.false c.in_ok-try_apply_run.ensures) t),
    )

pub returns-in_err-apply_item : goal.returns-in_err-apply_item
returns-in_err-apply_item c =
    let p = err_from_is_err_and c.from_residual-in_err-apply_item.result c.from_residual-in_err-apply_item.ensures.1 in
    rw (p.1, p.2) (subst (λ l. AreStepsTaken c.args.queue (steps_of_items (map item_of l)) (Err c.in_err-apply_item.field-0.0) c.args.self.now c.apply_item.new.self) c.into_iter-item-iterator.ensures.into_iter_gives.0
    (c.loop-item.invariant.2 (Err c.in_err-apply_item.field-0.0) c.apply_item.new.self (each_refused c.args.queue _ _ _ c.loop-item.self c.apply_item.new.self _ (split_items c.in-Some.item _ _ c.in-Some.ensures.steps.0)
    (not_tried c.args.queue (steps_of_items (item_of c.in-Some.item ∷ [])) _ c.try_apply_run.new.self _ _ _ c.if-not-branch.true c.in_ok-try_apply_run.ensures c.in_err-apply_item.ensures))))

pub returns : goal.returns
returns c =
    subst (λ l. AreStepsTaken c.args.queue (steps_of_items (map item_of l)) (Ok tt) c.args.self.now c.loop-item.self) c.into_iter-item-iterator.ensures.into_iter_gives.0
    (c.loop-item.invariant.2 (Ok tt) c.loop-item.self (no_items c.args.queue (λ l. steps_of_items (map item_of l)) _ c.loop-item.self refl (omega (arith, c.loop-item.invariant.1, c.in-None.ensures.steps.0))))
