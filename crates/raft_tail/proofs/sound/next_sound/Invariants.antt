use Rattle.raft_tail.proofs.SearchLemmas.{AreNoneUpTo}
use Rattle.raft_tail.proofs.Common.{IsSoundAt}
use Rattle.raft_tail.proofs.sound.next_sound.Given as goal

-- no sound batch stands before this byte
abbrev pub invariant-loop-at : goal.invariant-loop-at
invariant-loop-at l = AreNoneUpTo (IsSoundAt l.part) l.from l.at
