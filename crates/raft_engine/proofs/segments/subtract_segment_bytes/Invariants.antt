use Rattle.raft_engine.proofs.Common.{◌≡◌, ◌+◌, drop, bytes_of_parts}
use Rattle.raft_engine.proofs.segments.subtract_segment_bytes.Given as goal

abbrev pub invariant-loop-part : goal.invariant-loop-part
invariant-loop-part l = bytes_of_parts l.fn.segment.items + l.left ≡ l.fn.count + bytes_of_parts (drop l.part-index l.segment.items)
