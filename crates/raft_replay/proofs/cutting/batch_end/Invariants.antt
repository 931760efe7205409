use Rattle.raft_replay.proofs.Common.{◌-◌, ◌≤◌, length, BatchesMeet}
use Rattle.raft_replay.proofs.cutting.batch_end.Given as goal

abbrev pub invariant-loop-at : goal.invariant-loop-at
invariant-loop-at l = record {
  inside : l.at ≤ length l.part.bytes;
  met : BatchesMeet l.part l.at;
}

abbrev pub decreases-loop-at : goal.decreases-loop-at
decreases-loop-at l = length l.part.bytes - l.at
