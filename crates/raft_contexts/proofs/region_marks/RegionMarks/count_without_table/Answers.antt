use Rattle.raft_contexts.proofs.Common.{refl, sym, ap, subst, ◌∙◌, arith, together, AreSlots}
use Rattle.raft_contexts.proofs.CountLemmas.{absent_more, absent_all, no_more}
use Rattle.raft_contexts.proofs.RegionMarksLemmas.{few_slots}
use Rattle.raft_contexts.proofs.region_marks.RegionMarks.count_without_table.Goals as goal

pub loop-slot-init : goal.loop-slot-init
loop-slot-init c = (omega arith, omega arith, few_slots c.self.inside c.deref-slot-items.result.now c.self.invariant c.deref-slot-items.ensures.value)

pub loop-slot-preserved : goal.loop-slot-preserved
loop-slot-preserved c = (
  omega (
    arith,
    c.loop-slot.invariant.0,
    c.count_without_table-count.ensures.value,
    absent_more c.args.tables.now.tables c.deref-slot-items.result.now c.loop-slot.slot-index _ c.slot-item.result refl (omega (arith, c.loop-slot-test.true))
        c.slot-item.is,
  ),
  omega (arith, c.loop-slot.invariant.1, c.count_without_table-count.ensures.few),
  c.loop-slot.invariant.2,
)

pub overflow_add-count : goal.overflow_add-count
overflow_add-count c = omega (arith, c.loop-slot.invariant.1, c.loop-slot.invariant.2, c.count_without_table-count.ensures.few, c.loop-slot-test.true)

pub returns : goal.returns
returns c = omega (
  arith,
  c.loop-slot.invariant.0,
  no_more c.args.tables.now.tables c.deref-slot-items.result.now c.loop-slot.slot-index (omega (arith, c.loop-slot-test.false)),
  absent_all c.args.tables.now.tables c.deref-slot-items.result.now c.args.self.now (subst (AreSlots 0) (sym c.deref-slot-items.ensures.value) c.self.invariant.slots) (ap together c.deref-slot-items.ensures.value ∙ c.self.view_is),
)
