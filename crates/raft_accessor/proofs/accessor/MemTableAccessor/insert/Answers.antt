use Rattle.raft_accessor.proofs.Common.{IfErr-weaker, on_ok_weaker, on_err_weaker, ◌≡◌, ◌≤◌, ◌+◌, ◌^◌, ap, subst, ◌∙◌, inl, inr, OnOk, IfOk, with_table, live_of, with_table_added, with_table_deleted, Accessor, live_in_all, table_of, refl}
use Rattle.std.specs.FinMap as finite
use Rattle.raft_accessor.proofs.MapLemmas.{get_own}
use Rattle.raft_accessor.proofs.AccessorLemmas.{AtSlot, at-slot, kept-at, moved-at, tables-at, unchanged-at, with_slot, slot-counts}
use Rattle.raft_accessor.proofs.accessor.MemTableAccessor.insert.Goals as goal

pub insert-requires-clause-counted : goal.insert-requires-clause-counted
insert-requires-clause-counted c = slot-counts c.args.id c.self.invariant c.slot_of.ensures.value c.slot_of.ensures.bound c.index_mut.ensures.value

slotted : (c : goal.After-self-1) → AtSlot c.self.inside (with_slot c.self.inside c.slot_of.result c.insert.new.self c.insert.new.stats) c.args.self.now c.args.id c.slot_of.result c.index_mut.result.now c.insert.new.self
slotted c = at-slot c.self.invariant c.self.view_is c.slot_of.ensures.value c.slot_of.ensures.bound c.index_mut.ensures.value refl c.insert.ensures.one c.insert.ensures.recounted

pub invariant_of-self : goal.invariant_of-self
invariant_of-self c = kept-at (slotted c)

pub returns-clause-ok : goal.returns-clause-ok
returns-clause-ok c = on_ok_weaker c.insert.result (λ e. tables-at (slotted c) ∙ ap (with_table c.args.self.now.tables c.args.id) (ap (λ m. finite.get m c.args.id) e ∙ get_own _ c.args.id c.args.table)) c.insert.ensures.ok

pub returns-clause-replaced : goal.returns-clause-replaced
returns-clause-replaced c = moved-at (slotted c) (λ o p k. IfOk c.insert.result (λ t. t ≡ o)) c.insert.ensures.replaced

pub returns-clause-counts : goal.returns-clause-counts
returns-clause-counts c = moved-at (slotted c) (λ o p k. OnOk c.insert.result (c.insert.new.stats ≡ with_table_deleted (table_of c.args.id o) (with_table_added c.args.table k))) c.insert.ensures.counts

pub returns-clause-err : goal.returns-clause-err
returns-clause-err c = on_err_weaker c.insert.result (unchanged-at (slotted c)) c.insert.ensures.err

pub returns-clause-fault : goal.returns-clause-fault
returns-clause-fault c = IfErr-weaker c.insert.result _ _ (λ e f. elim f [
  | inl m ↦ inl m
  | inr g ↦ inr (g.0, (g.1.0, subst (λ n. 2 ^ 64 ≤ n + live_of g.1.0 c.args.table) (c.self.invariant.counted g.1.0 ∙ ap (λ (x : Accessor). live_in_all g.1.0 x.tables) c.self.view_is) g.1.1))
]) c.insert.ensures.fault
