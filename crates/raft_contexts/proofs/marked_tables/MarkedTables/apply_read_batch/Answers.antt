use Rattle.raft_contexts.proofs.Common.{Ok, drop_of_length-le, refl, sym, subst, err_from_is_err_and, AreDecodedIn, items_in_queue, steps_of_items, AreStepsOfQueue, AreStepsTaken}
use Rattle.raft_contexts.proofs.ReadTakenLemmas.{next_read, has_spans, steps_in_front, decoded_in_front, midway_more, midway_refused, midway_all}
use Rattle.raft_contexts.proofs.TakenLemmas.{other_in}
use Rattle.raft_contexts.proofs.marked_tables.MarkedTables.apply_read_batch.Goals as goal

pub loop-item-init : goal.loop-item-init
loop-item-init c = (
  record {
    whole = c.parts.ensures.spans;
    steps = subst (λ l. AreStepsOfQueue c.args.file.queue (steps_of_items l)) (sym c.parts.ensures.shown) (items_in_queue c.args.file.queue c.args.file c.args.batch.now refl c.requires.in_file);
    decoded = subst (AreDecodedIn c.parts.result.0.id) (sym c.parts.ensures.shown) c.parts.ensures.in_file;
  },
  c.requires.stands,
  λ r d t. t,
)

pub split_at-requires : goal.split_at-requires
split_at-requires c = has_spans _ _ _ _ _ _ c.span_count.result (next_read _ _ c.loop-item-test.true) c.span_count.ensures c.loop-item.invariant.0

pub apply_read_item-requires-clause-steps : goal.apply_read_item-requires-clause-steps
apply_read_item-requires-clause-steps c = steps_in_front _ _ _ _ _ _ _ _ _ (next_read _ _ c.loop-item-test.true) c.span_count.ensures c.split_at.ensures.front c.split_at.ensures.back c.loop-item.invariant.0

pub apply_read_item-requires-clause-decoded : goal.apply_read_item-requires-clause-decoded
apply_read_item-requires-clause-decoded c = decoded_in_front _ _ _ _ _ _ _ _ _ (next_read _ _ c.loop-item-test.true) c.span_count.ensures c.split_at.ensures.front c.split_at.ensures.back c.loop-item.invariant.0

pub apply_read_item-requires-clause-stands : goal.apply_read_item-requires-clause-stands
apply_read_item-requires-clause-stands c = c.loop-item.invariant.1

pub loop-item-preserved : goal.loop-item-preserved
loop-item-preserved c = midway_more _ _ _ _ _ _ _ _ _ (next_read _ _ c.loop-item-test.true) c.span_count.ensures c.split_at.ensures.front c.split_at.ensures.back
    c.parts.result.1.now c.parts.result.2.now c.args.self.now c.loop-item.self c.apply_read_item.new.self c.loop-item.invariant c.in_ok-apply_read_item.ensures

pub returns-in_err-apply_read_item-clause-taken : goal.returns-in_err-apply_read_item-clause-taken
returns-in_err-apply_read_item-clause-taken c =
    let p = err_from_is_err_and c.from_residual.result c.from_residual.ensures.1 in
    rw (p.1, p.2, ← c.parts.ensures.shown) (midway_refused _ _ _ _ _ _ _ _ _ (next_read _ _ c.loop-item-test.true) c.span_count.ensures c.split_at.ensures.front c.split_at.ensures.back
    c.parts.result.1.now c.parts.result.2.now c.args.self.now c.loop-item.self c.apply_read_item.new.self _ c.loop-item.invariant c.in_err-apply_read_item.ensures)

pub returns-clause-taken : goal.returns-clause-taken
returns-clause-taken c = subst (λ l. AreStepsTaken c.args.file.queue (steps_of_items l) (Ok tt) c.args.self.now c.loop-item.self) c.parts.ensures.shown
    (midway_all c.args.file.queue c.parts.result.0 c.parts.result.1.now _ c.parts.result.2.now c.loop-item.rest.now c.args.self.now c.loop-item.self
    (drop_of_length-le c.parts.result.1.now c.loop-item-test.false) c.loop-item.invariant)

pub returns-clause-other : goal.returns-clause-other
returns-clause-other c = other_in c.args.file.queue (steps_of_items c.args.batch.now) c.args.self.now c.loop-item.self (Ok tt)
    (items_in_queue c.args.file.queue c.args.file c.args.batch.now refl c.requires.in_file) (returns-clause-taken c).ok
