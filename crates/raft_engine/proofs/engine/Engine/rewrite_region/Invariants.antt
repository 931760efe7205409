use Rattle.raft_engine.proofs.Common.{length}
use Rattle.raft_engine.proofs.RewrittenRegions.{AreMovedSoFar}
use Rattle.raft_engine.proofs.engine.Engine.rewrite_region.Given as goal

abbrev pub invariant-loop-entries : goal.invariant-loop-entries
invariant-loop-entries g l = AreMovedSoFar l.gate l.region l.initial.self l.self l.rest

abbrev pub decreases-loop-entries : goal.decreases-loop-entries
decreases-loop-entries g l = length l.rest
