use Rattle.std.proofs.Common.{◌-◌, ◌≤◌, length}
use Rattle.raft_group_crashes.proofs.logs.read_batches.Given as goal

abbrev pub invariant-loop-batches : goal.invariant-loop-batches
invariant-loop-batches l = l.at ≤ length l.part.bytes

abbrev pub decreases-loop-batches : goal.decreases-loop-batches
decreases-loop-batches l = length l.part.bytes - l.at
