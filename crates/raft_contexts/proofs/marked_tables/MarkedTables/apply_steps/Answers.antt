use Rattle.raft_contexts.proofs.Common.{[], ◌∷◌, length, Ok, Err, map, refl, ap, subst, arith, err_from_is_err_and, region_step_shown, AreStepsTaken}
use Rattle.raft_contexts.proofs.TakenLemmas.{rest_of_queue, each_more, each_refused, no_items}
use Rattle.raft_contexts.proofs.marked_tables.MarkedTables.apply_steps.Goals as goal

pub loop-step-preserved : goal.loop-step-preserved
loop-step-preserved c =
    let at = c.loop-step.invariant in
    let is = c.in-Some.ensures.steps in
    let split = ap (map region_step_shown) is.0 in (
      rest_of_queue c.args.queue (region_step_shown c.in-Some.step ∷ []) _ _ split at.0,
      omega (arith, at.1, is.1, ap length is.0),
      λ r d t. at.2 r d (each_more c.args.queue (region_step_shown c.in-Some.step ∷ []) _ _ c.loop-step.self c.apply_step.new.self d r split at.0 c.in_ok-apply_step.ensures t),
    )

pub returns-in_err-apply_step : goal.returns-in_err-apply_step
returns-in_err-apply_step c =
    let p = err_from_is_err_and c.from_residual.result c.from_residual.ensures.1 in
    rw (p.1, p.2) (subst (λ l. AreStepsTaken c.args.queue (map region_step_shown l) (Err c.in_err-apply_step.field-0.0) c.args.self.now c.apply_step.new.self) c.into_iter-step-iterator.ensures.into_iter_gives.0
    (c.loop-step.invariant.2 (Err c.in_err-apply_step.field-0.0) c.apply_step.new.self
    (each_refused c.args.queue (region_step_shown c.in-Some.step ∷ []) _ _ c.loop-step.self c.apply_step.new.self _
    (ap (map region_step_shown) c.in-Some.ensures.steps.0) c.in_err-apply_step.ensures)))

pub returns : goal.returns
returns c =
    subst (λ l. AreStepsTaken c.args.queue (map region_step_shown l) (Ok tt) c.args.self.now c.loop-step.self) c.into_iter-step-iterator.ensures.into_iter_gives.0
    (c.loop-step.invariant.2 (Ok tt) c.loop-step.self (no_items c.args.queue (map region_step_shown) _ c.loop-step.self refl (omega (arith, c.loop-step.invariant.1, c.in-None.ensures.steps.0))))
