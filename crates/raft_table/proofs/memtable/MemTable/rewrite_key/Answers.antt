use Rattle.raft_table.proofs.Facts.{arith, Append, pair_counted, key_moves}
use Rattle.raft_table.proofs.memtable.MemTable.rewrite_key.Goals as goal

pub delete-requires : goal.delete-requires
delete-requires c =
    let a = rw c.in-Append.is at (pair_counted c.self.inside.keys c.deref.result.now c.in-Some.file c.in-Some.ensures) in
    omega (arith, rw (← c.self.view_is) at (c.requires Append), c.add_fitting.ensures.live Append)

pub returns-in-Append-clause-file_alone : goal.returns-in-Append-clause-file_alone
returns-in-Append-clause-file_alone c =
    rw (← c.self.view_is, c.set_file.ensures.after, ← c.deref-in-Append.ensures.value) (key_moves _ c.self.inside.keys _)

pub returns-clause-file_alone : goal.returns-clause-file_alone
returns-clause-file_alone c =
    rw (← c.self.view_is, c.set_file-in-Rewrite.ensures.after, ← c.deref-in-Rewrite.ensures.value) (key_moves _ c.self.inside.keys _)
