use Rattle.raft_table.proofs.Facts.{found_is_whole}
use Rattle.raft_table.proofs.memtable.queries.fetches_answer_ranges.Goals as goal

pub returns-clause-whole : goal.returns-clause-whole
returns-clause-whole c = λ begin end es h f. found_is_whole begin end es h f
