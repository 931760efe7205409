use Rattle.raft_shared.proofs.Common.{◌≡◌, Some, None, IfSome, sym, option_map, IsSlotTable}
use Rattle.std.specs.FinMap as finite
use Rattle.raft_shared.proofs.slot.Slot.table.Goals as goal

pub returns-clause-allowed : goal.returns-clause-allowed
returns-clause-allowed c =
    rw (← c.self.view_is) (elim c.get.result as (λ r. option_map (λ t. t.now) r ≡ finite.get c.self.inside.tables c.args.id → IfSome r (λ t. t.now.region_id ≡ c.args.id) → IfSome r (λ t. IsSlotTable c.self.inside.number c.args.id t.now)) [
      | None ↦ λ e o. tt
      | Some t ↦ λ e o. record { own = o; slot = c.self.invariant.regions c.args.id t.now (sym e) }
    ] c.get.ensures.value c.get.ensures.own)
