use Rattle.raft_accessor.proofs.region_tables.RegionTables.append_item.Goals as goal

pub returns-in-EntryIndexes : goal.returns-in-EntryIndexes
returns-in-EntryIndexes c = rw c.in-EntryIndexes.is (c.append_entries.ensures c.args.cleaned.now.items)
