use Rattle.raft_table.proofs.Facts.{arith, live_of_empty}
use Rattle.raft_table.proofs.memtable.MemTable.new.Goals as goal

pub returns-clause-counted : goal.returns-clause-counted
returns-clause-counted c = λ counts q. rw (c.new.ensures, c.new-2.ensures) (omega (arith, live_of_empty q c.args.region_id))
