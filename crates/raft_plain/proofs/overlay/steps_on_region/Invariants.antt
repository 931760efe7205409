use Rattle.raft_plain.proofs.Common.{◌≡◌, ◌++◌, drop, map, region_step_shown, steps_on, step_shown}
use Rattle.raft_plain.proofs.overlay.steps_on_region.Given as goal

abbrev pub invariant-loop-step : goal.invariant-loop-step
invariant-loop-step l = map (λ s. step_shown s.now) l.own.items ++ steps_on l.id (map region_step_shown (drop l.step-index l.steps)) ≡ steps_on l.id (map region_step_shown l.steps)
