use Rattle.raft_accessor.proofs.Common.{◌≡◌, drop, slot_entries}
use Rattle.raft_accessor.proofs.accessor.MemTableAccessor.is_empty.Given as goal

abbrev pub invariant-loop-slot : goal.invariant-loop-slot
invariant-loop-slot l = slot_entries l.slot-items ≡ slot_entries (drop l.slot-index l.slot-items)
