use Rattle.raft_accessor.proofs.region_tables.RegionTables.write_item.Goals as goal

pub returns-in-Appending : goal.returns-in-Appending
returns-in-Appending c = rw c.in-Appending.is c.append_item.ensures

pub returns-in-Replaying : goal.returns-in-Replaying
returns-in-Replaying c = rw c.in-Replaying.is c.replay_item.ensures

pub returns-in-Rewriting : goal.returns-in-Rewriting
returns-in-Rewriting c = rw c.in-Rewriting.is (c.rewrite_item.ensures c.args.cleaned.now.items)
