-- What is known of all groups: a map from the groups that have a group marker.
use Rattle.std.specs.Prelude.{◌≡◌, ℕ, Bool, true, false, ◌==◌, List, [], ◌∷◌, ◌++◌, flat_map, filter_map, length, Option, Some, None}
use Rattle.std.specs.List.{AllByRecursion, list_any}
use Rattle.std.specs.Option.{unwrap_or}
use Rattle.std.specs.Ordering.{nat_cmp}
use Rattle.std.specs.FinMap as finite
use Rattle.std.specs.FinMap.{FinMap}
use Rattle.raft_table.specs.Steps.{Step}
use Rattle.raft_history.specs.Batches.{GroupMarker, BatchSteps}
use Rattle.raft_history.specs.Effects.{whole_steps}
use Rattle.raft_history.specs.RegionSteps.{RegionStep, steps_on, names}
use Rattle.raft_history.specs.WaitingGroup.{group_in, without_marker, GroupFront, Open, Ended, Begun, OpenStretch, WaitingGroup, joined_group, WholeGroup, whole_group, one_marker}

-- each group that has a group marker, with what is known of it
abbrev pub WaitingGroups : Type 0
WaitingGroups = FinMap nat_cmp WaitingGroup

-- the group of a group marker, if there is one, with what the history says of it
abbrev pub group_by : List BatchSteps → Option GroupMarker → List (ℕ × WaitingGroup)
group_by h None = []
group_by h (Some m) = (m.group, group_in m.group h) ∷ []

-- each group that has a group marker in the history, with what is known of it
unfoldable pub groups_in : List BatchSteps → WaitingGroups
groups_in h = finite.from_entries (flat_map (λ b. group_by h b.marker) h)

-- what is known of a group
abbrev pub known_of : WaitingGroups → ℕ → WaitingGroup
known_of groups g = unwrap_or (finite.get groups g) without_marker

-- an older history's groups with some of a newer one's, one after another
abbrev pub joined_with : WaitingGroups → List (ℕ × WaitingGroup) → WaitingGroups
joined_with older [] = older
joined_with older (e ∷ es) = joined_with (finite.insert older e.0 (joined_group (known_of older e.0) e.1)) es

-- the groups of an older and a newer history, one after the other
abbrev pub joined_groups : WaitingGroups → WaitingGroups → WaitingGroups
joined_groups older newer = joined_with older (finite.entries newer)

-- of some of a newer history's groups, those that become whole with what an older one knows
abbrev pub whole_with : WaitingGroups → List (ℕ × WaitingGroup) → List WholeGroup
whole_with older es = filter_map (λ e. whole_group (known_of older e.0) e.1) es

-- the groups that become whole between an older and a newer history
abbrev pub whole_groups : WaitingGroups → WaitingGroups → List WholeGroup
whole_groups older newer = whole_with older (finite.entries newer)

-- the groups with one more batch, by its group marker
abbrev pub groups_after : WaitingGroups → BatchSteps → Option GroupMarker → WaitingGroups
groups_after groups b None = groups
groups_after groups b (Some m) = finite.insert groups m.group (joined_group (known_of groups m.group) (one_marker m.status b.steps b.seq))

-- the steps on a region of a group that may be whole
abbrev pub steps_or : ℕ → Option WholeGroup → List Step
steps_or r None = []
steps_or r (Some w) = whole_steps r w.steps w.first_seq w.last_seq

-- the steps on a region that take effect with a batch: its own where it has no group marker, else those of the group that it makes whole
abbrev pub steps_by_batch : ℕ → WaitingGroups → BatchSteps → Option GroupMarker → List Step
steps_by_batch r groups b None = steps_on r b.steps
steps_by_batch r groups b (Some m) = steps_or r (whole_group (known_of groups m.group) (one_marker m.status b.steps b.seq))

-- the steps that wait in a front
abbrev pub front_steps : GroupFront → List RegionStep
front_steps (Open is) = is
front_steps (Ended is seq) = is
front_steps Begun = []

-- the steps of an open stretch, if there is one
abbrev pub stretch_steps : Option OpenStretch → List RegionStep
stretch_steps None = []
stretch_steps (Some s) = s.steps

-- the steps that wait in a group
abbrev pub held_steps : WaitingGroup → List RegionStep
held_steps g = front_steps g.front ++ stretch_steps g.stretch

-- how many steps wait in all groups
abbrev pub waiting_steps : WaitingGroups → ℕ
waiting_steps groups = length (flat_map (λ e. held_steps e.1) (finite.entries groups))

-- whether a group, if it is whole, names the region
abbrev pub names_by : ℕ → Option WholeGroup → Bool
names_by r None = false
names_by r (Some w) = names r w.steps

-- whether what takes effect with a batch names the region
abbrev pub names_by_batch : ℕ → WaitingGroups → BatchSteps → Option GroupMarker → Bool
names_by_batch r groups b None = names r b.steps
names_by_batch r groups b (Some m) = names_by r (whole_group (known_of groups m.group) (one_marker m.status b.steps b.seq))

-- ---- by a list of groups

-- of the groups in the list those that become whole between two histories
abbrev pub wholes : List ℕ → List BatchSteps → List BatchSteps → List WholeGroup
wholes ids older newer = filter_map (λ g. whole_group (group_in g older) (group_in g newer)) ids

-- the steps on a region of groups that are whole, in order
unfoldable pub steps_of_wholes : ℕ → List WholeGroup → List Step
steps_of_wholes r ws = flat_map (λ w. whole_steps r w.steps w.first_seq w.last_seq) ws

-- the list has the group of each group marker
abbrev pub IsListed : List ℕ → Option GroupMarker → Type 0
IsListed ids None = Unit {0}
IsListed ids (Some m) = list_any (λ g. g == m.group) ids ≡ true

-- the list has the group of each batch that has a group marker
abbrev pub ListsGroups : List ℕ → List BatchSteps → Type 0
ListsGroups ids h = AllByRecursion (λ b. IsListed ids b.marker) h
