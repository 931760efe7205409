use Rattle.raft_table.proofs.Facts.{least-none, least-found, least-lowest}
use Rattle.raft_table.proofs.memtable.queries.least_is_lowest.Goals as goal

pub returns : goal.returns
returns c = record { none = least-none; found = least-found; lowest = least-lowest }
