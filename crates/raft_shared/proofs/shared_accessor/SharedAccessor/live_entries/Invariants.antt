use Rattle.std.proofs.Common.{◌≤◌, ◌*◌}
use Rattle.raft_shared.proofs.shared_accessor.SharedAccessor.live_entries.Given as goal

-- each slot has fewer than 2^64 live records in a queue
abbrev pub invariant-loop-slot : goal.invariant-loop-slot
invariant-loop-slot g l = l.live ≤ l.slot-index * 18446744073709551616
