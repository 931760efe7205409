use Rattle.raft_replay.proofs.plan.Plan.+halves.Given as goal

abbrev pub decreases-halves : goal.decreases-halves
decreases-halves l = l.count
