use Rattle.raft_plain.proofs.Common.{◌≡◌, drop, map, max, greatest_compaction, step_shown}
use Rattle.raft_plain.proofs.overlay.greatest_compaction.Given as goal

abbrev pub invariant-loop-step : goal.invariant-loop-step
invariant-loop-step l = max l.greatest (greatest_compaction (map (λ s. step_shown s.now) (drop l.step-index l.steps))) ≡ greatest_compaction (map (λ s. step_shown s.now) l.steps)
