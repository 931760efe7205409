use Rattle.raft_accessor.proofs.Common.{◌≡◌, Some, refl}
use Rattle.raft_accessor.proofs.AccessorLemmas.{AtSlot, at-slot, changed-at, kept-at, moved-at, with_slot, slot-counts}
use Rattle.raft_accessor.proofs.accessor.MemTableAccessor.make_if_missing.Goals as goal

pub make_if_missing-requires : goal.make_if_missing-requires
make_if_missing-requires c = slot-counts c.args.id c.self.invariant c.slot_of.ensures.value c.slot_of.ensures.bound c.index_mut.ensures.value

slotted : (c : goal.After-self-1) → AtSlot c.self.inside (with_slot c.self.inside c.slot_of.result c.make_if_missing.new.self c.make_if_missing.new.stats) c.args.self.now c.args.id c.slot_of.result c.index_mut.result.now c.make_if_missing.new.self
slotted c = at-slot c.self.invariant c.self.view_is c.slot_of.ensures.value c.slot_of.ensures.bound c.index_mut.ensures.value refl c.make_if_missing.ensures.outcome.one c.make_if_missing.ensures.outcome.recounted

pub invariant_of-self : goal.invariant_of-self
invariant_of-self c = kept-at (slotted c)

pub returns-clause-changed : goal.returns-clause-changed
returns-clause-changed c = changed-at (slotted c) (λ t. Some t) (λ t k e. ⊥) c.make_if_missing.result c.make_if_missing.ensures.outcome refl

pub returns-clause-counts : goal.returns-clause-counts
returns-clause-counts c = moved-at (slotted c) (λ o p k. c.make_if_missing.new.stats ≡ k) c.make_if_missing.ensures.counts
