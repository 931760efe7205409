use Rattle.raft_engine.proofs.Common.{◌≡◌, ◌+◌, ◌<◌, ◌^◌, drop, bytes_of_segments}
use Rattle.raft_engine.proofs.segments.check_few_bytes.Given as goal

abbrev pub invariant-loop-segment : goal.invariant-loop-segment
invariant-loop-segment l = record {
  bound : l.left < 2 ^ 63;
  left : bytes_of_segments l.fn.segments + l.left + 1 ≡ 2 ^ 63 + bytes_of_segments (drop l.segment-index l.segments);
}
