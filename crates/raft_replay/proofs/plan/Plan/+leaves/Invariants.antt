use Rattle.raft_replay.proofs.Common.{◌≡◌, ℕ, ◌+◌, ◌-◌, ◌^◌, min, Bor, Plan, leaves, weigh}
use Rattle.raft_replay.proofs.WalkLemmas.{nodes}
use Rattle.raft_replay.proofs.plan.Plan.+leaves.Given as goal

abbrev pub decreases-leaves : goal.decreases-leaves
decreases-leaves l = leaves l.self.now

abbrev pub invariant-loop-plan : goal.invariant-loop-plan
invariant-loop-plan l =
    (counted : ℕ) × (l.count ≡ min counted (2 ^ 64 - 1))
    × (counted + leaves l.plan + weigh (λ (p : Bor Plan). leaves p.now) l.behind.items ≡ leaves l.self)

abbrev pub decreases-loop-plan : goal.decreases-loop-plan
decreases-loop-plan l = nodes l.plan + weigh (λ (p : Bor Plan). nodes p.now) l.behind.items
