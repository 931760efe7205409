use Rattle.raft_contexts.proofs.Common.{one_step, ◌≡◌, [], ◌∷◌, ◌+◌, slice_index_or, drop, Ok, Err, sym, subst, at_drop_more, err_from_is_err_and, drop_of_length-le, on_each, AtomicGroup, AreStepsTaken, Rewrite}
use Rattle.raft_contexts.proofs.TakenLemmas.{taken_more, taken_none, taken_refused}
use Rattle.raft_contexts.proofs.marked_tables.MarkedTables.set_group_files.Goals as goal

pub loop-id-preserved : goal.loop-id-preserved
loop-id-preserved c = λ r d t.
    let id = slice_index_or c.args.regions.now c.loop-id.id-index 0 in
    let step = AtomicGroup c.args.first_seq c.args.last_seq in
    let one : drop c.loop-id.id-index c.args.regions.now ≡ id ∷ drop (c.loop-id.id-index + 1) c.args.regions.now = at_drop_more (λ l. l) c.args.regions.now c.loop-id.id-index 0 c.loop-id-test.true in
    c.loop-id.invariant r d (subst (λ l. AreStepsTaken Rewrite (on_each l step) r c.loop-id.self d) (sym one)
    (taken_more Rewrite (one_step id step) (on_each (drop (c.loop-id.id-index + 1) c.args.regions.now) step) c.loop-id.self c.apply_step.new.self d r (tt, tt) c.in_ok-apply_step.ensures t))

pub returns-in_err-apply_step : goal.returns-in_err-apply_step
returns-in_err-apply_step c =
    let id = slice_index_or c.args.regions.now c.loop-id.id-index 0 in
    let step = AtomicGroup c.args.first_seq c.args.last_seq in
    let p = err_from_is_err_and c.from_residual.result c.from_residual.ensures.1 in
    let one : drop c.loop-id.id-index c.args.regions.now ≡ id ∷ drop (c.loop-id.id-index + 1) c.args.regions.now = at_drop_more (λ l. l) c.args.regions.now c.loop-id.id-index 0 c.loop-id-test.true in
    rw (p.1, p.2) (c.loop-id.invariant (Err c.in_err-apply_step.field-0.0) c.apply_step.new.self (subst (λ l. AreStepsTaken Rewrite (on_each l step) (Err c.in_err-apply_step.field-0.0) c.loop-id.self c.apply_step.new.self) (sym one)
    (taken_refused Rewrite (on_each (id ∷ []) step) (on_each (drop (c.loop-id.id-index + 1) c.args.regions.now) step) c.loop-id.self c.apply_step.new.self _ c.in_err-apply_step.ensures)))

pub returns : goal.returns
returns c = c.loop-id.invariant (Ok tt) c.loop-id.self
    (subst (λ l. AreStepsTaken Rewrite (on_each l (AtomicGroup c.args.first_seq c.args.last_seq)) (Ok tt) c.loop-id.self c.loop-id.self)
    (sym (drop_of_length-le c.args.regions.now c.loop-id-test.false)) (taken_none Rewrite c.loop-id.self))
