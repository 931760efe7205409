use Rattle.raft_survey.proofs.Common.{◌-◌, ◌≤◌, length, take, AreBatchesByHeader}
use Rattle.raft_survey.proofs.file_walk.whole_batches_length.Given as goal

abbrev pub invariant-loop-len : goal.invariant-loop-len
invariant-loop-len l = record {
  inside : l.at ≤ length l.bytes;
  whole : AreBatchesByHeader (take l.at l.bytes);
}

abbrev pub decreases-loop-len : goal.decreases-loop-len
decreases-loop-len l = length l.bytes - l.at
