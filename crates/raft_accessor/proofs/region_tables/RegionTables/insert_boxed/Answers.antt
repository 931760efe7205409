use Rattle.raft_accessor.proofs.Common.{◌≡◌, ◌≤◌, ◌+◌, ◌^◌, refl, inl, inr, subst, Some, sym, ap, ◌∙◌, arith, err_from_is_err_and, live, table_of, live_of, with_table_added, with_table_deleted, table_in, tables_shown}
use Rattle.std.specs.FinMap as finite
use Rattle.raft_accessor.specs.declared.region_tables.RegionTables.TheInside.{Inside}
use Rattle.raft_accessor.proofs.MapLemmas.{get_own, one_written}
use Rattle.raft_accessor.proofs.RegionTablesLemmas.{get-shown, shown-with, shown-same, own-of}
use Rattle.raft_accessor.proofs.UpdateLemmas.{not_inserted}
use Rattle.raft_accessor.proofs.region_tables.RegionTables.insert_boxed.Goals as goal

pub returns-in_err-reserve : goal.returns-in_err-reserve
returns-in_err-reserve c =
    let p = err_from_is_err_and c.from_residual.result c.from_residual.ensures.1 in
    rw (p.1, p.2) (not_inserted c.args.id c.args.table c.args.self.now _ c.args.stats.now c.args.stats.now _
    (shown-same c.self.inside (record c.self.inside { tables = c.reserve.new.self }) c.args.self.now c.self.view_is c.reserve.ensures.entries.2) refl (inl refl))

pub returns-in_err-add_table : goal.returns-in_err-add_table
returns-in_err-add_table c =
    let p = err_from_is_err_and c.from_residual-in_err-add_table.result c.from_residual-in_err-add_table.ensures.1 in
    let full = c.in_err-add_table.ensures in
    rw (p.1, p.2) (not_inserted c.args.id c.args.table c.args.self.now _ c.args.stats.now _ _
    (shown-same c.self.inside (record c.self.inside { tables = c.reserve.new.self }) c.args.self.now c.self.view_is c.reserve.ensures.entries.2) full.err (inr
    (full.full.0, (full.full.1.0, subst (λ t. 2 ^ 64 ≤ live full.full.1.0 c.args.stats.now + live_of full.full.1.0 t) c.get.ensures full.full.1.1))))

pub subtract_removed_table-requires : goal.subtract_removed_table-requires
subtract_removed_table-requires c = λ q.
    omega (
      arith,
      c.requires.counted q,
      c.in_ok-add_table.ensures.live q,
      ap (live_of q) c.get.ensures,
      ap (λ o. live_of q (table_of c.args.id o))
          (c.in-Ok.ensures.old ∙ c.reserve.ensures.entries.2 c.args.id ∙ sym (get-shown c.self.inside c.args.self.now c.args.id c.self.view_is)),
    )

abbrev after : goal.After-subtract_removed_table → Inside
after c = record c.self.inside { tables = c.insert.new.self }

shown : (c : goal.After-subtract_removed_table) → tables_shown (after c) ≡ finite.insert c.args.self.now c.args.id c.args.table
shown c =
    shown-with (record c.self.inside { tables = c.reserve.new.self }) (after c) c.args.self.now c.args.id (Some c.args.table)
    (shown-same c.self.inside (record c.self.inside { tables = c.reserve.new.self }) c.args.self.now c.self.view_is c.reserve.ensures.entries.2) c.in-Ok.ensures.updates.0

was : (c : goal.After-subtract_removed_table) → c.in-Ok.replaced ≡ finite.get c.args.self.now c.args.id
was c = c.in-Ok.ensures.old ∙ c.reserve.ensures.entries.2 c.args.id ∙ sym (get-shown c.self.inside c.args.self.now c.args.id c.self.view_is)

pub returns : goal.returns
returns c = record {
  ok = shown c;
  replaced = was c;
  own = own-of c.self.inside c.args.id c.self.invariant c.in-Ok.replaced (c.in-Ok.ensures.old ∙ c.reserve.ensures.entries.2 c.args.id);
  counts = c.subtract_removed_table.ensures.counts ∙ ap (λ o. with_table_deleted (table_of c.args.id o) c.add_table.new.self) (was c)
      ∙ ap (with_table_deleted (table_in c.args.self.now c.args.id)) (c.in_ok-add_table.ensures.ok ∙ ap (λ t. with_table_added t c.args.stats.now) c.get.ensures);
  err = tt;
  counts_err = tt;
  fault = tt;
  one = one_written c.args.self.now _ c.args.id c.args.table (shown c);
  recounted = λ q.
      omega (
        arith,
        c.subtract_removed_table.ensures.live q,
        c.in_ok-add_table.ensures.live q,
        ap (live_of q) c.get.ensures,
        ap (λ o. live_of q (table_of c.args.id o)) (was c),
        ap (λ m. live_of q (table_in m c.args.id)) (shown c),
        ap (λ o. live_of q (table_of c.args.id o)) (get_own c.args.self.now c.args.id c.args.table),
      );
}
