use Rattle.raft_replay.specs.PlanWalks.{heft}
use Rattle.raft_replay.proofs.plan.Plan.drop.Given as goal

abbrev pub decreases-loop-self : goal.decreases-loop-self
decreases-loop-self l = heft l.self
