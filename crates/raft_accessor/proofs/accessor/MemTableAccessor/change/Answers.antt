use Rattle.raft_accessor.proofs.Common.{OnOk, IfOk, after_change, AreCountsAfter, IsAnswer, IsChangeFault, table_of, refl}
use Rattle.raft_accessor.proofs.AccessorLemmas.{AtSlot, at-slot, changed-at, kept-at, moved-at, with_slot, slot-counts}
use Rattle.raft_accessor.proofs.accessor.MemTableAccessor.change.Goals as goal

pub change-requires : goal.change-requires
change-requires c = slot-counts c.args.id c.self.invariant c.slot_of.ensures.value c.slot_of.ensures.bound c.index_mut.ensures.value

slotted : (c : goal.After-self-1) → AtSlot c.self.inside (with_slot c.self.inside c.slot_of.result c.change.new.self c.change.new.stats) c.args.self.now c.args.id c.slot_of.result c.index_mut.result.now c.change.new.self
slotted c = at-slot c.self.invariant c.self.view_is c.slot_of.ensures.value c.slot_of.ensures.bound c.index_mut.ensures.value refl c.change.ensures.outcome.one c.change.ensures.outcome.recounted

pub invariant_of-self : goal.invariant_of-self
invariant_of-self c = kept-at (slotted c)

pub returns-clause-changed : goal.returns-clause-changed
returns-clause-changed c = changed-at (slotted c) (λ t. after_change t c.args.change) (λ t k. IsChangeFault t k c.args.change) c.change.result c.change.ensures.outcome refl

pub returns-clause-answer : goal.returns-clause-answer
returns-clause-answer c = moved-at (slotted c) (λ o p k. IfOk c.change.result (IsAnswer c.args.change (table_of c.args.id o) (table_of c.args.id p))) c.change.ensures.answer

pub returns-clause-counts : goal.returns-clause-counts
returns-clause-counts c = moved-at (slotted c) (λ o p k. OnOk c.change.result (AreCountsAfter c.args.change (table_of c.args.id o) k c.change.new.stats)) c.change.ensures.counts
