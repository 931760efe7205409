use Rattle.raft_shared.proofs.Common.{IfErr-weaker, ◌≡◌, ◌+◌, ◌≤◌, ◌^◌, Ok, Err, Some, None, IfSome, sym, subst, inl, inr, IfOk, live_of, IsSlotTable, table-counted}
use Rattle.std.specs.FinMap as finite
use Rattle.raft_shared.proofs.SharedLemmas.{kept-by}
use Rattle.raft_shared.proofs.slot.Slot.insert.Goals as goal

pub insert-requires-clause-counted : goal.insert-requires-clause-counted
insert-requires-clause-counted c = table-counted c.self.inside.tables c.self.inside.stats c.args.id c.self.invariant.counted

pub invariant_of-self : goal.invariant_of-self
invariant_of-self c = kept-by c.insert.new.stats c.args.id c.self.invariant c.self.view_is c.requires.slot c.insert.ensures.one c.insert.ensures.recounted

pub returns-clause-own : goal.returns-clause-own
returns-clause-own c =
    rw (← c.self.view_is) (elim c.insert.result as (λ r. IfOk r (λ o. o ≡ finite.get c.self.inside.tables c.args.id) →
    IfOk r (λ o. IfSome o (λ t. t.region_id ≡ c.args.id)) → IfOk r (λ o. IfSome o (IsSlotTable c.self.inside.number c.args.id))) [
      | Ok None ↦ λ e o. tt
      | Ok (Some t) ↦ λ e o. record { own = o; slot = c.self.invariant.regions c.args.id t (sym e) }
      | Err x ↦ λ e o. tt
    ] c.insert.ensures.replaced c.insert.ensures.own)

pub returns-clause-fault : goal.returns-clause-fault
returns-clause-fault c =
    rw (← c.self.view_is) (IfErr-weaker c.insert.result _ _ (λ e f. elim f [
      | inl m ↦ inl m
      | inr g ↦ inr (g.0, (g.1.0, subst (λ n. 2 ^ 64 ≤ n + live_of g.1.0 c.args.table) (c.self.invariant.counted g.1.0) g.1.1))
    ]) c.insert.ensures.fault)
