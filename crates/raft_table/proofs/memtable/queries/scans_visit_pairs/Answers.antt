use Rattle.raft_table.proofs.Facts.{visited_are_pairs}
use Rattle.raft_table.proofs.memtable.queries.scans_visit_pairs.Goals as goal

pub returns-clause-visited : goal.returns-clause-visited
returns-clause-visited c = visited_are_pairs
