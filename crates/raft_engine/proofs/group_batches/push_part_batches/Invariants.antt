use Rattle.raft_engine.proofs.Common.{◌≡◌, length, IsRunning}
use Rattle.raft_engine.proofs.PartLemmas.{ArePartsSoFar}
use Rattle.raft_engine.proofs.group_batches.push_part_batches.Given as goal

abbrev pub invariant-loop-rest : goal.invariant-loop-rest
invariant-loop-rest g l =
    ArePartsSoFar l.fn.entries l.fn.builder.id l.region (g.F.EngineFiles.asked l.fn.files) (g.F.EngineFiles.asked l.files) l.fn.batches.items l.batches.items l.rest
    × IsRunning l.builder.state × (l.builder.id ≡ l.fn.builder.id)

abbrev pub decreases-loop-rest : goal.decreases-loop-rest
decreases-loop-rest g l = length l.rest
