-- Atomic groups in the rewrite files.
use Rattle.std.specs.Prelude.{◌≡◌, ◌≢◌, ℕ, List, Option, Some, None}
use Rattle.std.specs.List.{AllByRecursion}
use Rattle.raft_records.specs.declared.atomic_group.AtomicGroupStatus.{AtomicGroupStatus}
use Rattle.raft_records.specs.declared.atomic_group.AtomicGroupStatus.TheVariants.{Begin, Middle, End}
use Rattle.raft_history.specs.Batches.{Event, GroupMarker, batch_of, batches}
use Rattle.raft_history.specs.WaitingGroup.{GroupFront, Open, Ended, Begun, group_in}

-- a batch has no group marker
abbrev pub HasNoMarker : Event → Type 0
HasNoMarker e = (batch_of e).marker ≡ None

-- a group marker begins a group or goes on with one
abbrev pub IsBeforeEnd : Option GroupMarker → Type 0
IsBeforeEnd None = ⊥
IsBeforeEnd (Some m) = m.status ≢ End

-- a batch leaves its group open
abbrev pub LeavesOpen : Event → Type 0
LeavesOpen e = IsBeforeEnd (batch_of e).marker

-- the batch has a group marker of the group with that status
abbrev pub IsMarked : ℕ → AtomicGroupStatus → Event → Type 0
IsMarked g status e = (batch_of e).marker ≡ Some record { group = g; status = status }

-- a whole group whose batches stand in a row: a Begin, Middles, and an End
pub record IsWholeGroup (g : ℕ) (begin : Event) (middles : List Event) (end : Event) : Type 0 where
  pub begins : IsMarked g Begin begin
  pub goes_on : AllByRecursion (IsMarked g Middle) middles
  pub ends : IsMarked g End end

-- what comes before a group's first Begin has no End
abbrev pub IsNotEnded : GroupFront → Type 0
IsNotEnded (Open is) = Unit {0}
IsNotEnded (Ended is seq) = ⊥
IsNotEnded Begun = Unit {0}

-- the batches end no group that began before them: of no group does an End come first
abbrev pub EndNoOlderGroup : List Event → Type 0
EndNoOlderGroup h = (g : ℕ) → IsNotEnded (group_in g (batches h)).front
