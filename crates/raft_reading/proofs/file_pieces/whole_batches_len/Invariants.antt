use Rattle.raft_reading.proofs.Common.{◌-◌, ◌≤◌, length, HeadersLead}
use Rattle.raft_reading.proofs.file_pieces.whole_batches_len.Given as goal

abbrev pub invariant-loop-len : goal.invariant-loop-len
invariant-loop-len l = record {
  inside : l.at ≤ length l.bytes;
  led : HeadersLead l.bytes l.at;
}

abbrev pub decreases-loop-len : goal.decreases-loop-len
decreases-loop-len l = length l.bytes - l.at
