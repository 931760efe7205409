use Rattle.raft_accessor.proofs.region_tables.RegionTables.rewrite_item.Goals as goal

pub returns-in-EntryIndexes : goal.returns-in-EntryIndexes
returns-in-EntryIndexes c = rw c.in-EntryIndexes.is (λ list. c.rewrite_entries.ensures list)

pub returns-in-Command : goal.returns-in-Command
returns-in-Command c = rw c.in-Command.is (λ list. c.rewrite_command.ensures c.args.gate c.args.seq c.args.stats.now list)

pub returns-in-Kv : goal.returns-in-Kv
returns-in-Kv c = rw c.in-Kv.is (λ list. c.rewrite_pair.ensures list)
