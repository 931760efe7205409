use Rattle.raft_engine.proofs.Common.{◌≡◌, length, drop}
use Rattle.raft_engine.proofs.PartLengths.{ArePartSoFar}
use Rattle.raft_engine.proofs.parts.count_in_next_part.Given as goal

abbrev pub invariant-loop-rest : goal.invariant-loop-rest
invariant-loop-rest l = (l.rest ≡ drop l.len l.entries) × ArePartSoFar l.entries l.len l.bytes

abbrev pub decreases-loop-rest : goal.decreases-loop-rest
decreases-loop-rest l = length l.rest
