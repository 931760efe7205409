use Rattle.raft_accessor.proofs.Common.{None, sym, ap, ◌∙◌, arith, table_of, live_of, with_table_deleted, live_of_empty}
use Rattle.raft_accessor.proofs.RegionTablesLemmas.{get-shown, own-of, shown-with}
use Rattle.raft_accessor.proofs.region_tables.RegionTables.remove_boxed.Goals as goal

pub subtract_removed_table-requires : goal.subtract_removed_table-requires
subtract_removed_table-requires c = λ q. rw (c.remove-removed.ensures.value ∙ sym (get-shown c.self.inside c.args.self.now c.args.id c.self.view_is)) (c.requires q)

pub returns : goal.returns
returns c =
    let was = c.remove-removed.ensures.value ∙ sym (get-shown c.self.inside c.args.self.now c.args.id c.self.view_is) in
    record {
      removed = was;
      own = own-of c.self.inside c.args.id c.self.invariant c.remove-removed.result c.remove-removed.ensures.value;
      after = shown-with c.self.inside (record c.self.inside { tables = c.remove-removed.new.self }) c.args.self.now c.args.id None c.self.view_is c.remove-removed.ensures.updates.0;
      counts = c.subtract_removed_table.ensures.counts ∙ ap (λ o. with_table_deleted (table_of c.args.id o) c.args.stats.now) was;
      recounted = λ q. omega (arith, c.subtract_removed_table.ensures.live q, ap (λ o. live_of q (table_of c.args.id o)) was, live_of_empty q c.args.id);
    }
