use Rattle.raft_plain.proofs.Common.{[], take, HasReplayed, PartsHold, HasRead}
use Rattle.raft_plain.proofs.parts.read_parts.Given as goal

abbrev pub invariant-loop-part : goal.invariant-loop-part
invariant-loop-part l = record {
  begins : HasRead l.queue l.initial.reading [];
  read : HasReplayed (PartsHold (take l.part-index l.parts)) (HasRead l.queue) (HasRead l.queue) l.initial.reading l.reading;
}
