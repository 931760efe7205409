use Rattle.raft_contexts.proofs.Common.{length, refl, ap, arith, with_item, mark_of, joined_at, step_shown}
use Rattle.raft_contexts.specs.declared.region_marks.RegionMarks.TheInside.{Inside}
use Rattle.raft_contexts.proofs.RegionMarksLemmas.{InSlot, all_slots, kept-same, kept-in, ok-in, err-in, one_put}
use Rattle.raft_contexts.proofs.region_marks.RegionMarks.add_step.Goals as goal

pub index_mut-requires : goal.index_mut-requires
index_mut-requires c = omega (arith, c.slot_of.ensures.bound, ap length c.in_ok-fill_missing_slots.ensures.ok, all_slots c.self.inside.slots.items c.self.invariant.all)

abbrev after : goal.After-self-1 → Inside
after c = record c.self.inside { slots = with_item c.fill_missing_slots.new.slots c.slot_of.result c.add_step.new.self }

slotted : (c : goal.After-self-1) → InSlot c.self.inside (after c) c.fill_missing_slots.new.slots.items c.slot_of.result c.index_mut.result.now c.add_step.new.self
slotted c = record { made = c.in_ok-fill_missing_slots.ensures.ok; bound = c.slot_of.ensures.bound; lent = c.index_mut.ensures.value; set = refl }

pub invariant_of-self : goal.invariant_of-self
invariant_of-self c = kept-same c.self.inside (record c.self.inside { slots = c.fill_missing_slots.new.slots }) c.self.invariant c.in_err-fill_missing_slots.ensures.err

pub invariant_of-self-2 : goal.invariant_of-self-2
invariant_of-self-2 c = kept-in c.self.inside (after c) c.fill_missing_slots.new.slots.items c.slot_of.result c.index_mut.result.now c.add_step.new.self
    c.self.invariant (slotted c) c.args.id c.slot_of.ensures.value
    (one_put c.add_step.result _ _ c.args.id _ c.add_step.ensures.ok c.add_step.ensures.err)

pub returns-clause-ok : goal.returns-clause-ok
returns-clause-ok c = ok-in c.self.inside (after c) c.fill_missing_slots.new.slots.items c.slot_of.result c.index_mut.result.now c.add_step.new.self
    c.self.invariant (slotted c) c.args.id c.slot_of.ensures.value c.args.self.now c.self.view_is c.add_step.result
    (λ m. joined_at c.args.queue c.args.end m (mark_of (step_shown c.args.step.now))) c.add_step.ensures.ok

pub returns-clause-err : goal.returns-clause-err
returns-clause-err c = err-in c.self.inside (after c) c.fill_missing_slots.new.slots.items c.slot_of.result c.index_mut.result.now c.add_step.new.self
    c.self.invariant (slotted c) c.args.self.now c.self.view_is c.add_step.result c.add_step.ensures.err
