use Rattle.raft_plain.proofs.Common.{◌-◌, ◌≤◌, length}
use Rattle.raft_plain.proofs.PartLemmas.{IsReadTo}
use Rattle.raft_plain.proofs.parts.apply_part.Given as goal

abbrev pub invariant-loop-batch : goal.invariant-loop-batch
invariant-loop-batch l = record {
  inside : l.at ≤ length l.part.bytes;
  read : IsReadTo l.queue l.part l.fn.reading l.at l.reading;
}

abbrev pub decreases-loop-batch : goal.decreases-loop-batch
decreases-loop-batch l = length l.part.bytes - l.at
