use Rattle.raft_contexts.proofs.Common.{refl, arith, Mark}
use Rattle.std.specs.FinSet as finset
use Rattle.raft_contexts.proofs.RegionMarksLemmas.{few_slots, counted_more, counted_all}
use Rattle.raft_contexts.proofs.region_marks.RegionMarks.deleted_keys.Goals as goal

pub loop-slot-init : goal.loop-slot-init
loop-slot-init c = (omega arith, omega arith, few_slots c.self.inside c.deref-slot-items.result.now c.self.invariant c.deref-slot-items.ensures.value)

pub loop-slot-preserved : goal.loop-slot-preserved
loop-slot-preserved c = (
  counted_more (λ (m : Mark). finset.len m.deleted) c.deref-slot-items.result.now c.loop-slot.slot-index _ c.slot-item.result c.loop-slot.count
      c.deleted_keys-count.result _ refl (omega (arith, c.loop-slot-test.true)) c.slot-item.is c.deleted_keys-count.ensures.value
      c.loop-slot.invariant.0,
  omega (arith, c.loop-slot.invariant.1, c.deleted_keys-count.ensures.few),
  c.loop-slot.invariant.2,
)

pub overflow_add-count : goal.overflow_add-count
overflow_add-count c = omega (arith, c.loop-slot.invariant.1, c.loop-slot.invariant.2, c.deleted_keys-count.ensures.few, c.loop-slot-test.true)

pub returns : goal.returns
returns c = counted_all (λ (m : Mark). finset.len m.deleted) c.self.inside c.args.self.now c.deref-slot-items.result.now c.loop-slot.slot-index
    c.loop-slot.count c.self.invariant c.self.view_is c.deref-slot-items.ensures.value (omega (arith, c.loop-slot-test.false)) c.loop-slot.invariant.0
