use Rattle.raft_table.proofs.Facts.{◌≡◌}
use Rattle.std.specs.FinSet as finset
use Rattle.raft_table.proofs.memtable.deleted_keys.DeletedKeys.move_each_from.Given as goal

abbrev pub invariant-loop-key : goal.invariant-loop-key
invariant-loop-key l = finset.union l.self l.rhs ≡ finset.union l.initial.self l.initial.rhs

abbrev pub decreases-loop-key : goal.decreases-loop-key
decreases-loop-key l = finset.len l.rhs
