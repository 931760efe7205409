use Rattle.raft_table.proofs.Facts.{sym, length-spread}
use Rattle.raft_table.proofs.memtable.run.Run.len.Goals as goal

pub returns-in-Block : goal.returns-in-Block
returns-in-Block c = rw c.in-Block.is (sym (length-spread c.in-Block.first c.in-Block.handle c.in-Block.spans.now))
