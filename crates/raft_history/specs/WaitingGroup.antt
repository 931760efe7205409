-- What is known of a group from its group markers alone, and when it becomes whole between two histories.
use Rattle.std.specs.Prelude.{ℕ, List, [], ◌∷◌, ◌++◌, flat_map, Option, Some, None}
use Rattle.raft_records.specs.declared.atomic_group.AtomicGroupStatus.{AtomicGroupStatus}
use Rattle.raft_records.specs.declared.atomic_group.AtomicGroupStatus.TheVariants.{Begin, Middle, End}
use Rattle.raft_history.specs.Batches.{GroupMarker, BatchSteps}
use Rattle.raft_history.specs.Effects.{Numbered, numbered_from, markers_of, open_stretch}
use Rattle.raft_history.specs.RegionSteps.{RegionStep}

-- what stands before a group's first Begin, up to the first End: open, with the steps so far, where neither has come yet; ended, with the steps up to an End that came first, and the number of its file; or begun, where a Begin came first, so that what stands before it never takes effect. (Each batch of a group has a group marker.)
pub data GroupFront : Type 0 where
  Open : List RegionStep → GroupFront
  Ended : List RegionStep → ℕ → GroupFront
  Begun : GroupFront

-- a front with steps before it
abbrev pub led_by : List RegionStep → GroupFront → GroupFront
led_by is (Open js) = Open (is ++ js)
led_by is (Ended js seq) = Ended (is ++ js) seq
led_by is Begun = Begun

-- a front with one more group marker before it, of this status, these steps and a file of this number
abbrev pub front_by : AtomicGroupStatus → List RegionStep → ℕ → GroupFront → GroupFront
front_by Begin is seq rest = Begun
front_by Middle is seq rest = led_by is rest
front_by End is seq rest = Ended is seq

-- a front with one more batch before it, by the batch's group marker
abbrev pub front_behind : Option GroupMarker → List RegionStep → ℕ → GroupFront → GroupFront
front_behind None is seq rest = Begun
front_behind (Some m) is seq rest = front_by m.status is seq rest

-- the front of a group, by its group markers in order
unfoldable pub front_of : List Numbered → GroupFront
front_of [] = Open []
front_of (p ∷ ps) = front_behind p.batch.marker p.batch.steps p.batch.seq (front_of ps)

-- an open stretch: the number of the file of its Begin, and its steps
pub record OpenStretch : Type 0 where
  pub first_seq : ℕ
  pub steps : List RegionStep

-- the open stretch of these batches, if there are any
abbrev pub stretch_of : List Numbered → Option OpenStretch
stretch_of [] = None
stretch_of (p ∷ ps) = Some record { first_seq = p.batch.seq; steps = flat_map (λ x. x.batch.steps) (p ∷ ps) }

-- what a context holds of a group
pub record WaitingGroup : Type 0 where
  pub front : GroupFront
  pub stretch : Option OpenStretch

-- what the group markers of a group say of it
abbrev pub group_at : List Numbered → WaitingGroup
group_at ms = record { front = front_of ms; stretch = stretch_of (open_stretch ms) }

-- what batches say of a group
abbrev pub group_of : ℕ → List Numbered → WaitingGroup
group_of g ps = group_at (markers_of g ps)

-- what is known of a group from a history
abbrev pub group_in : ℕ → List BatchSteps → WaitingGroup
group_in g h = group_of g (numbered_from 0 h)

-- a group that is whole: its steps, and the numbers of the files of its Begin and its End
pub record WholeGroup : Type 0 where
  pub steps : List RegionStep
  pub first_seq : ℕ
  pub last_seq : ℕ

-- an older open stretch, if there is one, with the steps that go on with it in a newer history
abbrev pub carried_stretch : Option OpenStretch → List RegionStep → Option OpenStretch
carried_stretch None is = None
carried_stretch (Some s) is = Some record { first_seq = s.first_seq; steps = s.steps ++ is }

-- what is known of a group from an older and a newer history, by the front that it has in each
abbrev pub joined_group_by : GroupFront → GroupFront → WaitingGroup → WaitingGroup → WaitingGroup
joined_group_by (Open is) front older newer = record { front = led_by is front; stretch = newer.stretch }
joined_group_by front (Open is) older newer = record { front = front; stretch = carried_stretch older.stretch is }
joined_group_by front _ older newer = record { front = front; stretch = newer.stretch }

-- what is known of a group from an older and a newer history
abbrev pub joined_group : WaitingGroup → WaitingGroup → WaitingGroup
joined_group older newer = joined_group_by older.front newer.front older newer

-- the group that becomes whole, if it does, by the older history's open stretch and the newer one's front
abbrev pub whole_of : Option OpenStretch → GroupFront → Option WholeGroup
whole_of None front = None
whole_of (Some s) (Open is) = None
whole_of (Some s) (Ended is seq) = Some record { steps = s.steps ++ is; first_seq = s.first_seq; last_seq = seq }
whole_of (Some s) Begun = None

-- the same, by the older history's front too: where that is open, the group has no open stretch there
abbrev pub whole_group_by : GroupFront → Option OpenStretch → GroupFront → Option WholeGroup
whole_group_by (Open is) s front = None
whole_group_by _ s front = whole_of s front

-- the group that becomes whole between an older and a newer history, if it does
abbrev pub whole_group : WaitingGroup → WaitingGroup → Option WholeGroup
whole_group older newer = whole_group_by older.front older.stretch newer.front

-- what is known of a group without a group marker
abbrev pub without_marker : WaitingGroup
without_marker = record { front = Open []; stretch = None }

-- what is known of a group with one group marker of this status, in a batch of these steps in a file of this number
abbrev pub one_marker : AtomicGroupStatus → List RegionStep → ℕ → WaitingGroup
one_marker Begin is seq = record { front = Begun; stretch = Some record { first_seq = seq; steps = is } }
one_marker Middle is seq = record { front = Open is; stretch = None }
one_marker End is seq = record { front = Ended is seq; stretch = None }
