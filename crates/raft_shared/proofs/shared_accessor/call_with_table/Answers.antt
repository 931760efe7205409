use Rattle.raft_shared.proofs.Common.{refl, sym, subst, IsSlotTable}
use Rattle.raft_shared.proofs.shared_accessor.call_with_table.Goals as goal

pub returns : goal.returns
returns g c = (c.in_ok-table.table.now, subst (λ n. IsSlotTable n c.args.id c.in_ok-table.table.now) (sym c.requires.slot) c.in_ok-table.ensures.allowed, (c.in_ok-table.table, c.f.ensures, refl))
