use Rattle.raft_table.proofs.Facts.{get-pairs_over}
use Rattle.raft_table.proofs.memtable.change.newer_pairs_win.Goals as goal

pub returns : goal.returns
returns c = get-pairs_over
