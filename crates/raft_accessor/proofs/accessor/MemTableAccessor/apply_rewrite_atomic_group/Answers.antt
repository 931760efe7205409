use Rattle.raft_accessor.proofs.Common.{◌≡◌, Some, refl}
use Rattle.raft_accessor.proofs.AccessorLemmas.{AtSlot, at-slot, changed-at, kept-at, moved-at, with_slot, slot-counts}
use Rattle.raft_accessor.proofs.accessor.MemTableAccessor.apply_rewrite_atomic_group.Goals as goal

pub apply_rewrite_atomic_group-requires-clause-counted : goal.apply_rewrite_atomic_group-requires-clause-counted
apply_rewrite_atomic_group-requires-clause-counted c = slot-counts c.args.id c.self.invariant c.slot_of.ensures.value c.slot_of.ensures.bound c.index_mut.ensures.value

slotted : (c : goal.After-self-1) → AtSlot c.self.inside (with_slot c.self.inside c.slot_of.result c.apply_rewrite_atomic_group.new.self
    c.apply_rewrite_atomic_group.new.stats) c.args.self.now c.args.id c.slot_of.result c.index_mut.result.now c.apply_rewrite_atomic_group.new.self
slotted c = at-slot c.self.invariant c.self.view_is c.slot_of.ensures.value c.slot_of.ensures.bound c.index_mut.ensures.value refl c.apply_rewrite_atomic_group.ensures.outcome.one c.apply_rewrite_atomic_group.ensures.outcome.recounted

pub invariant_of-self : goal.invariant_of-self
invariant_of-self c = kept-at (slotted c)

pub returns-clause-changed : goal.returns-clause-changed
returns-clause-changed c = changed-at (slotted c) (λ t. Some (record t { atomic_group = Some (c.args.start, c.args.end) })) (λ t k e. ⊥) c.apply_rewrite_atomic_group.result c.apply_rewrite_atomic_group.ensures.outcome refl

pub returns-clause-counts : goal.returns-clause-counts
returns-clause-counts c = moved-at (slotted c) (λ o p k. c.apply_rewrite_atomic_group.new.stats ≡ k) c.apply_rewrite_atomic_group.ensures.counts
