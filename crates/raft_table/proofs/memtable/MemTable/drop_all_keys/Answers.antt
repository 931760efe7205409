use Rattle.raft_table.proofs.Facts.{arith, Append, Rewrite, each_queue, pair_count-empty}
use Rattle.raft_table.proofs.memtable.MemTable.drop_all_keys.Goals as goal

pub returns-clause-recounted : goal.returns-clause-recounted
returns-clause-recounted c =
    rw (← c.self.view_is)
    (each_queue _
    (omega (arith, c.delete.ensures.live Append, c.delete-2.ensures.live Append, pair_count-empty Append _ c.clear.ensures))
    (omega (arith, c.delete.ensures.live Rewrite, c.delete-2.ensures.live Rewrite, pair_count-empty Rewrite _ c.clear.ensures)))
