-- Batches of which each atomic group stands in a row, in one file.
use Rattle.std.specs.Prelude.{◌≡◌, ℕ, List, [], ◌∷◌, Option, Some, None}
use Rattle.raft_records.specs.declared.atomic_group.AtomicGroupStatus.{AtomicGroupStatus}
use Rattle.raft_records.specs.declared.atomic_group.AtomicGroupStatus.TheVariants.{Begin, End}
use Rattle.raft_history.specs.Batches.{Event, GroupMarker, batch_of}

-- the group that a group marker of this status leaves open, with the number of its file: an End leaves none
abbrev pub open_as : AtomicGroupStatus → ℕ → ℕ → Option (ℕ × ℕ)
open_as End group seq = None
open_as _ group seq = Some (group, seq)

-- the same of a group marker, if there is one
abbrev pub open_by : Option GroupMarker → ℕ → Option (ℕ × ℕ)
open_by None seq = None
open_by (Some m) seq = open_as m.status m.group seq

-- the group that a batch leaves open, with the number of its file
abbrev pub left_open : Event → Option (ℕ × ℕ)
left_open e = open_by (batch_of e).marker e.file.seq

-- a group marker of this status may stand right behind a batch that leaves this open: a Begin behind any, a Middle and an End where it is their group, in their file
abbrev pub MayStandAs : AtomicGroupStatus → ℕ → ℕ → Option (ℕ × ℕ) → Type 0
MayStandAs Begin group seq left = Unit {0}
MayStandAs _ group seq left = left ≡ Some (group, seq)

-- the same of a group marker, if there is one; a batch without one may stand anywhere
abbrev pub MayStandBy : Option GroupMarker → ℕ → Option (ℕ × ℕ) → Type 0
MayStandBy None seq left = Unit {0}
MayStandBy (Some m) seq left = MayStandAs m.status m.group seq left

-- each batch may stand where it does, the first one behind one that leaves this open
abbrev pub StandBehind : Option (ℕ × ℕ) → List Event → Type 0
StandBehind left [] = Unit {0}
StandBehind left (e ∷ h) = MayStandBy (batch_of e).marker e.file.seq left × StandBehind (left_open e) h

-- the group that batches leave open, behind one that leaves this open
abbrev pub open_behind : Option (ℕ × ℕ) → List Event → Option (ℕ × ℕ)
open_behind left [] = left
open_behind left (e ∷ h) = open_behind (left_open e) h

-- Each group stands in a row: each batch that goes on with a group or ends it stands right behind one that begins that group or goes on with it, in the same file
abbrev pub AreGroupsInRows : List Event → Type 0
AreGroupsInRows h = StandBehind None h
