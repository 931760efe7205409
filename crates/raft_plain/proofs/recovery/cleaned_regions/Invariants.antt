use Rattle.raft_plain.proofs.Common.{◌≡◌, ◌++◌, drop, map, Append, region_step_shown, cleaned_by_steps}
use Rattle.raft_plain.proofs.recovery.cleaned_regions.Given as goal

abbrev pub invariant-loop-step : goal.invariant-loop-step
invariant-loop-step l = l.cleaned.items ++ cleaned_by_steps Append (map region_step_shown (drop l.step-index l.steps)) ≡ cleaned_by_steps Append (map region_step_shown l.steps)
