use Rattle.raft_listing.proofs.Common.{◌-◌, length}
use Rattle.raft_listing.proofs.WalkLemmas.{IsWalking}
use Rattle.raft_listing.proofs.walk.walk_part.Given as goal

abbrev pub invariant-loop-at : goal.invariant-loop-at
invariant-loop-at g l = IsWalking g.V.PartVisitor.visits l.part l.fn.visitor l.visitor l.at

abbrev pub decreases-loop-at : goal.decreases-loop-at
decreases-loop-at g l = length l.part.bytes - l.at
