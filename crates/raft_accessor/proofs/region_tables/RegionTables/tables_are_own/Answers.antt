use Rattle.std.proofs.Common.{sym, ◌∙◌}
use Rattle.raft_accessor.proofs.RegionTablesLemmas.{get-shown}
use Rattle.raft_accessor.proofs.region_tables.RegionTables.tables_are_own.Goals as goal

pub returns : goal.returns
returns c = λ id t e. c.self.invariant id t (sym (get-shown c.self.inside c.args.self.now id c.self.view_is) ∙ e)
