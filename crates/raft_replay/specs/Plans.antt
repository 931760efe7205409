-- Plans of merging neighbors.
use Rattle.std.specs.Prelude.{ℕ, ◌+◌, ◌≤◌}
use Rattle.raft_replay.specs.declared.plan.Plan.{Plan}
use Rattle.raft_replay.specs.declared.plan.Plan.TheVariants.{One, Join'}

-- how many pieces a plan merges
abbrev pub leaves : Plan → ℕ
leaves One = 1
leaves (Join' p a q b) = leaves a + leaves b

-- each join is of two plans of as many pieces, or of one more in the second
abbrev pub IsByHalves : Plan → Type 0
IsByHalves One = Unit {0}
IsByHalves (Join' p a q b) = (leaves a ≤ leaves b) × (leaves b ≤ leaves a + 1) × IsByHalves a × IsByHalves b
