use Rattle.raft_tail.proofs.SearchLemmas.{AreNoneUpTo}
use Rattle.raft_tail.proofs.Common.{IsElsewhere}
use Rattle.raft_tail.proofs.elsewhere.signed_elsewhere.Given as goal

-- no batch that is signed for another file stands before this byte
abbrev pub invariant-loop-at : goal.invariant-loop-at
invariant-loop-at l = AreNoneUpTo (IsElsewhere l.part) l.from l.at
