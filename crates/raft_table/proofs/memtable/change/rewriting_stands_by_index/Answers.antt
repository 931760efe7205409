use Rattle.raft_table.proofs.Facts.{moved_by_index}
use Rattle.raft_table.proofs.memtable.change.rewriting_stands_by_index.Goals as goal

pub returns-clause-moved : goal.returns-clause-moved
returns-clause-moved c = moved_by_index
