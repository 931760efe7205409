use Rattle.raft_tail.proofs.PassingLemmas.{AreItemsSoFar}
use Rattle.raft_tail.proofs.items.skip_items.Given as goal

-- one item for each turn, and behind their entries comes the offset
abbrev pub invariant-loop : goal.invariant-loop
invariant-loop l = AreItemsSoFar l.bytes l.rest l.offset l.counter
