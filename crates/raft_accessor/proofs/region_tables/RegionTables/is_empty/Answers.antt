use Rattle.raft_accessor.proofs.RegionTablesLemmas.{empty-if, if-empty}
use Rattle.raft_accessor.proofs.region_tables.RegionTables.is_empty.Goals as goal

pub returns : goal.returns
returns c = ((λ t. empty-if c.self.inside c.args.self.now c.self.view_is (c.is_empty.ensures.0 t)), (λ e. c.is_empty.ensures.1 (if-empty c.self.inside c.args.self.now c.self.view_is e)))
