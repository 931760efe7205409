use Rattle.raft_accessor.proofs.Common.{map, item_of, writing_shown, AreWritten}
use Rattle.raft_accessor.proofs.accessor.MemTableAccessor.write_items.Given as goal

abbrev pub invariant-loop-item : goal.invariant-loop-item
invariant-loop-item g l = AreWritten (writing_shown l.how) (map item_of l.yielded) l.fn.self l.self
