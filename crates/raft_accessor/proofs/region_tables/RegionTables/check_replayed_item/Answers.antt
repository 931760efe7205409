use Rattle.raft_accessor.proofs.region_tables.RegionTables.check_replayed_item.Goals as goal

pub returns-in-Kv-clause-fault : goal.returns-in-Kv-clause-fault
returns-in-Kv-clause-fault c = λ id o live. rw c.in-Kv.is (c.check_replayed_pair.ensures.fault id o live)
