use Rattle.raft_shared.proofs.Common.{map, AllByRecursion, item_of, MayBeWritten, writing_shown}
use Rattle.raft_shared.proofs.shared_accessor.SharedAccessor.write_items.Given as goal

abbrev pub invariant-loop-item : goal.invariant-loop-item
invariant-loop-item g l = AllByRecursion (MayBeWritten (writing_shown l.fn.how)) (map item_of l.yielded)
