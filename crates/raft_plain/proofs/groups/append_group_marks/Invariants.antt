use Rattle.raft_plain.proofs.Common.{◌≡◌, ◌++◌, drop, map, AtomicGroup, region_step_shown, RegionStep}
use Rattle.raft_plain.proofs.groups.append_group_marks.Given as goal

abbrev pub invariant-loop-step : goal.invariant-loop-step
invariant-loop-step l =
    map region_step_shown l.marks.items ++ map (λ (s : RegionStep). record { region = s.region; step = AtomicGroup l.first_seq l.last_seq }) (map region_step_shown (drop l.step-index l.fn.steps.items))
    ≡ map (λ (s : RegionStep). record { region = s.region; step = AtomicGroup l.first_seq l.last_seq }) (map region_step_shown l.fn.steps.items)
