use Rattle.raft_shared.proofs.Common.{◌≡◌, Some, None, IfSome, refl, sym, ap, ◌∙◌, Slot, IsSlotTable, table-counted}
use Rattle.std.specs.FinMap as finite
use Rattle.raft_shared.proofs.SharedLemmas.{kept-taken}
use Rattle.raft_shared.proofs.slot.Slot.take_table.Goals as goal

pub remove-requires : goal.remove-requires
remove-requires c = table-counted c.self.inside.tables c.self.inside.stats c.args.id c.self.invariant.counted

pub invariant_of-self : goal.invariant_of-self
invariant_of-self c = kept-taken c.self.inside (record c.self.inside { tables = c.remove.new.self; stats = c.remove.new.stats }) c.args.id
    c.self.invariant (c.requires ∙ sym (ap (λ (s : Slot). s.number) c.self.view_is)) refl c.remove.ensures.after c.remove.ensures.recounted refl

pub returns-clause-own : goal.returns-clause-own
returns-clause-own c =
    rw (← c.self.view_is) (elim c.remove.result as (λ r. r ≡ finite.get c.self.inside.tables c.args.id → IfSome r (λ t. t.region_id ≡ c.args.id) → IfSome r (IsSlotTable c.self.inside.number c.args.id)) [
      | None ↦ λ e o. tt
      | Some t ↦ λ e o. record { own = o; slot = c.self.invariant.regions c.args.id t (sym e) }
    ] c.remove.ensures.removed c.remove.ensures.own)
