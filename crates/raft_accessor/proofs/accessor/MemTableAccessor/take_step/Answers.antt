use Rattle.raft_accessor.proofs.Common.{subst, step_shown, Accessor, AreCountsOf, refl}
use Rattle.raft_accessor.proofs.AccessorLemmas.{AtSlot, at-slot, kept-at, step-at, with_slot, slot-counts}
use Rattle.raft_accessor.proofs.accessor.MemTableAccessor.take_step.Goals as goal

pub take_step-requires-clause-counted : goal.take_step-requires-clause-counted
take_step-requires-clause-counted c = slot-counts c.args.id c.self.invariant c.slot_of.ensures.value c.slot_of.ensures.bound c.index_mut.ensures.value

slotted : (c : goal.After-self-1) → AtSlot c.self.inside (record (with_slot c.self.inside c.slot_of.result c.take_step.new.self c.take_step.new.stats) {
  cleaned =
      c.take_step.new.cleaned;
}) c.args.self.now c.args.id c.slot_of.result c.index_mut.result.now c.take_step.new.self
slotted c = at-slot c.self.invariant c.self.view_is c.slot_of.ensures.value c.slot_of.ensures.bound c.index_mut.ensures.value refl c.take_step.ensures.one c.take_step.ensures.recounted

pub invariant_of-self : goal.invariant_of-self
invariant_of-self c = kept-at (slotted c)

pub returns-clause-taken : goal.returns-clause-taken
returns-clause-taken c = step-at (slotted c) c.args.queue (step_shown c.args.step) c.take_step.result c.take_step.ensures

pub returns-clause-exact_counts : goal.returns-clause-exact_counts
returns-clause-exact_counts c = subst (λ (x : Accessor). AreCountsOf x.tables x.counts) c.self.view_is c.self.invariant.counted
