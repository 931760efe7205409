use Rattle.raft_contexts.proofs.Common.{◌≡◌, ◌≤◌, [], map, AllByRecursion, Error, regions_after, region_steps_of_wholes, live_in_all, regions_in, IsStepsFault, CanTakeEffect, whole_shown, Append, Rewrite}
use Rattle.raft_contexts.proofs.read_state.apply_whole_groups.Given as goal

-- behind the groups that were taken in, those that are left give what all give
abbrev pub invariant-loop-whole : goal.invariant-loop-whole
invariant-loop-whole l =
    AllByRecursion CanTakeEffect (map whole_shown l.whole-iterator.rest.items)
    × (regions_after Rewrite (regions_in l.regions) (region_steps_of_wholes (map whole_shown l.whole-iterator.rest.items)) ≡ regions_after Rewrite (regions_in l.fn.regions) (region_steps_of_wholes (map whole_shown l.fn.wholes.items)))
    × (l.regions.accessor.cleaned ≡ l.fn.regions.accessor.cleaned)
    × (live_in_all Append l.regions.accessor.tables ≤ live_in_all Append l.fn.regions.accessor.tables)
    × ((e : Error) → IsStepsFault Rewrite (regions_in l.regions) (region_steps_of_wholes (map whole_shown l.whole-iterator.rest.items)) e →
    IsStepsFault Rewrite (regions_in l.fn.regions) (region_steps_of_wholes (map whole_shown l.fn.wholes.items)) e)
    × (map whole_shown l.fn.wholes.items ≡ [] → map whole_shown l.whole-iterator.rest.items ≡ [])
