use Rattle.raft_accessor.proofs.Common.{Ok, Err, refl, subst, inl, err_from_is_err_and, IsInserted}
use Rattle.raft_accessor.proofs.UpdateLemmas.{not_inserted}
use Rattle.raft_accessor.proofs.region_tables.RegionTables.insert.Goals as goal

pub returns-in_err-table : goal.returns-in_err-table
returns-in_err-table c =
    let p = err_from_is_err_and c.from_residual.result c.from_residual.ensures.1 in
    rw (p.1, p.2) (not_inserted c.args.id c.args.table c.args.self.now c.args.self.now c.args.stats.now c.args.stats.now _ refl refl (inl refl))

pub returns-in_err-insert_boxed : goal.returns-in_err-insert_boxed
returns-in_err-insert_boxed c =
    let p = err_from_is_err_and c.from_residual-in_err-insert_boxed.result c.from_residual-in_err-insert_boxed.ensures.1 in
    rw (p.1, p.2) (subst (λ t. IsInserted c.args.id t c.args.self.now c.args.stats.now (Err c.in_err-insert_boxed.field-0.0) c.insert_boxed.new.self c.insert_boxed.new.stats) c.in_ok-table.ensures c.in_err-insert_boxed.ensures)

pub returns : goal.returns
returns c = subst (λ t. IsInserted c.args.id t c.args.self.now c.args.stats.now (Ok c.unbox_table.result) c.insert_boxed.new.self c.insert_boxed.new.stats) c.in_ok-table.ensures (rw c.unbox_table.ensures c.in_ok-insert_boxed.ensures)
