use Rattle.raft_ffi.proofs.Common.{◌-◌, ◌≤◌, length, AreBatchesUpTo, part_of}
use Rattle.raft_ffi.proofs.byte_calls.walk_readable_batches.Given as goal

abbrev pub invariant-loop-next : goal.invariant-loop-next
invariant-loop-next l = record {
  inside : l.at ≤ length l.bytes;
  up_to : AreBatchesUpTo (part_of l.file l.offset l.bytes) l.at;
}

abbrev pub decreases-loop-next : goal.decreases-loop-next
decreases-loop-next l = length l.bytes - l.at
