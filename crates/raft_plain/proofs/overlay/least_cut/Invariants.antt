use Rattle.raft_plain.proofs.Common.{◌≡◌, drop, map, lesser, least_cut, step_shown}
use Rattle.raft_plain.proofs.overlay.least_cut.Given as goal

abbrev pub invariant-loop-step : goal.invariant-loop-step
invariant-loop-step l = lesser l.least (least_cut (map (λ s. step_shown s.now) (drop l.step-index l.steps))) ≡ least_cut (map (λ s. step_shown s.now) l.steps)
