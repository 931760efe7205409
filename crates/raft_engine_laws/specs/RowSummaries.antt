-- What neighbors know of their batches' atomic groups, so that two of them know it of both together: whether each group stands in a row.
use Rattle.std.specs.Prelude.{◌≡◌, ◌↔◌, ℕ, Bool, true, List, [], ◌∷◌, Option, Some, None}
use Rattle.raft_history.specs.Batches.{Event, GroupMarker, batch_of}
use Rattle.raft_engine_laws.specs.GroupsInRows.{MayStandBy, StandBehind, left_open, open_behind}

-- the group marker of a batch, and the number of its file
pub record Marked : Type 0 where
  pub marker : Option GroupMarker
  pub seq : ℕ

-- the first batch, if there is one; what the last one leaves open; and whether each behind the first may stand where it does
pub record Summary : Type 0 where
  pub first : Option Marked
  pub left : Option (ℕ × ℕ)
  pub inner : Bool

-- the first of some batches
abbrev pub first_of : List Event → Option Marked
first_of [] = None
first_of (e ∷ h) = Some (record { marker = (batch_of e).marker; seq = e.file.seq })

-- each batch behind the first may stand where it does
abbrev pub RestStands : List Event → Type 0
RestStands [] = Unit {0}
RestStands (e ∷ h) = StandBehind (left_open e) h

-- the first of some batches may stand behind one that leaves this open
abbrev pub FirstMayStand : Option Marked → Option (ℕ × ℕ) → Type 0
FirstMayStand None left = Unit {0}
FirstMayStand (Some m) left = MayStandBy m.marker m.seq left

-- a summary of some batches
pub record IsSummaryOf (s : Summary) (h : List Event) : Type 0 where
  pub first : s.first ≡ first_of h
  pub left : s.left ≡ open_behind None h
  pub inner : (s.inner ≡ true) ↔ RestStands h

-- the seam of two neighbors that both have batches: the newer one's first may stand behind the older one's last
abbrev pub IsSeam : Option Marked → Option (ℕ × ℕ) → Option Marked → Type 0
IsSeam None left newer = Unit {0}
IsSeam (Some older) left newer = FirstMayStand newer left

-- of two neighbors together: the first batch of either, what the newer one leaves open if it has a batch, and whether both and the seam stand
pub record AreJoined (older newer both : Summary) : Type 0 where
  pub first_older : (m : Marked) → older.first ≡ Some m → both.first ≡ Some m
  pub first_newer : older.first ≡ None → both.first ≡ newer.first
  pub left_older : newer.first ≡ None → both.left ≡ older.left
  pub left_newer : (m : Marked) → newer.first ≡ Some m → both.left ≡ newer.left
  pub inner : (both.inner ≡ true) ↔ ((older.inner ≡ true) × IsSeam older.first older.left newer.first × (newer.inner ≡ true))
