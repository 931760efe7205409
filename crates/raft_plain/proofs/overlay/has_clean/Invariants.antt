use Rattle.raft_plain.proofs.Common.{◌≡◌, drop, map, has_clean, step_shown}
use Rattle.raft_plain.proofs.overlay.has_clean.Given as goal

abbrev pub invariant-loop-step : goal.invariant-loop-step
invariant-loop-step l = has_clean (map (λ s. step_shown s.now) (drop l.step-index l.steps)) ≡ has_clean (map (λ s. step_shown s.now) l.steps)
