use Rattle.raft_accessor.proofs.RegionTablesLemmas.{kept-same, shown-same}
use Rattle.raft_accessor.proofs.region_tables.RegionTables.make_room.Goals as goal

pub invariant_of-self : goal.invariant_of-self
invariant_of-self c = kept-same c.self.inside (record c.self.inside { tables = c.reserve.new.self }) c.self.invariant c.reserve.ensures.entries.2

pub returns : goal.returns
returns c = shown-same c.self.inside (record c.self.inside { tables = c.reserve.new.self }) c.args.self.now c.self.view_is c.reserve.ensures.entries.2
