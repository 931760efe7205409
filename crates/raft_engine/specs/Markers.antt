-- Files whose batches can't be read, or of which some group doesn't stand in a row.
use Rattle.std.specs.Prelude.{List}
use Rattle.raft_base.specs.Errors.{IsInvalidArgument}
use Rattle.raft_base.specs.declared.errors.Error.{Error}
use Rattle.raft_history.specs.Batches.{Event}
use Rattle.raft_history.specs.Histories.{IsSmall, Sound}
use Rattle.raft_engine_laws.specs.GroupsInRows.{AreGroupsInRows}

-- if batches are held that can be read, a group of theirs doesn't stand in a row, and this is an invalid argument; what is there may not be readable
abbrev pub NoneIsInRows : (List Event → Type 0) → Error → Type 0
NoneIsInRows Held e = (h : List Event) → Held h → IsSmall h → Sound h → ¬ (AreGroupsInRows h) × IsInvalidArgument e

-- batches are held, and each group of theirs stands in a row
pub record HaveRows (Held : List Event → Type 0) : Type 0 where
  pub batches : List Event
  pub held : Held batches
  pub rows : IsSmall batches → AreGroupsInRows batches

-- no batches are held: what is there can't be read
abbrev pub NoneIsHeld : (List Event → Type 0) → Type 0
NoneIsHeld Held = (h : List Event) → ¬ (Held h)

-- batches are held of which a group doesn't stand in a row, and this is an invalid argument
pub record AreOutOfRows (Held : List Event → Type 0) (e : Error) : Type 0 where
  pub batches : List Event
  pub held : Held batches
  pub out : ¬ (AreGroupsInRows batches)
  pub invalid : IsInvalidArgument e
