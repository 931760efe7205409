-- Groups that wait, as plain values.
use Rattle.std.specs.Prelude.{ℕ, List, map, Option}
use Rattle.std.specs.Option.{option_map}
use Rattle.std.specs.FinMap as finite
use Rattle.raft_history.specs.WaitingGroup as groups
use Rattle.raft_history.specs.WaitingGroup.{Open, Ended, Begun}
use Rattle.raft_history.specs.WaitingGroups as all
use Rattle.raft_contexts.specs.declared.waiting_group.GroupFront.{GroupFront}
use Rattle.raft_contexts.specs.declared.waiting_group.GroupFront.TheVariants as fronts
use Rattle.raft_contexts.specs.declared.waiting_group.OpenStretch.{OpenStretch}
use Rattle.raft_contexts.specs.declared.waiting_group.WaitingGroup.{WaitingGroup}
use Rattle.raft_contexts.specs.declared.waiting_group.WholeGroup.{WholeGroup}

-- a front by its cases
abbrev pub front_shown : GroupFront → groups.GroupFront
front_shown (fronts.Open items) = Open items
front_shown (fronts.Ended items seq) = Ended items seq
front_shown fronts.Begun = Begun

-- an open stretch
abbrev pub open_shown : OpenStretch → groups.OpenStretch
open_shown s = record { first_seq = s.first_seq; steps = s.items }

-- an open stretch, if there is one
abbrev pub stretch_shown : Option OpenStretch → Option groups.OpenStretch
stretch_shown s = option_map open_shown s

-- a group that waits
abbrev pub group_shown : WaitingGroup → groups.WaitingGroup
group_shown g = record { front = front_shown g.front; stretch = stretch_shown g.stretch }

-- a group that is whole
abbrev pub whole_shown : WholeGroup → groups.WholeGroup
whole_shown w = record { steps = w.items; first_seq = w.first_seq; last_seq = w.last_seq }

-- the entries of a map, as the map of groups
abbrev pub seen_entries : List (ℕ × WaitingGroup) → all.WaitingGroups
seen_entries es = finite.from_sorted (map (λ e. (e.0, group_shown e.1)) es)
