use Rattle.raft_table.proofs.Facts.{arith, Rewrite}
use Rattle.raft_table.proofs.memtable.entries.places.count_rewriting.Goals as goal

pub delete-requires-in-Some : goal.delete-requires-in-Some
delete-requires-in-Some c = omega (arith, c.add_fitting.ensures.live Rewrite, c.delete.ensures.live Rewrite)

pub delete-requires-in-None : goal.delete-requires-in-None
delete-requires-in-None c = omega (arith, c.add_fitting.ensures.live Rewrite)

pub returns-in-Some-clause-rewritten : goal.returns-in-Some-clause-rewritten
returns-in-Some-clause-rewritten c = rw c.in-Some.is (omega (arith, c.requires.moved, c.add_fitting.ensures.live Rewrite, c.delete.ensures.live Rewrite, c.delete-in-Some.ensures.live Rewrite))
