use Rattle.raft_prefix.proofs.Common.{◌-◌, ◌≤◌, length, ArePassed}
use Rattle.raft_prefix.proofs.readable.read_readable_batches.Given as goal

abbrev pub invariant-loop-next : goal.invariant-loop-next
invariant-loop-next l = record {
  inside : l.at ≤ length l.bytes;
  passed : ArePassed l.file l.offset l.bytes l.fn.damaged.items l.damaged.items l.at;
}

abbrev pub decreases-loop-next : goal.decreases-loop-next
decreases-loop-next l = length l.bytes - l.at
