use Rattle.raft_accessor.proofs.region_tables.RegionTables.remove.Goals as goal

pub returns : goal.returns
returns c = rw c.unbox_table.ensures c.remove_boxed.ensures
