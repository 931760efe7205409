-- Machines in the order of what they have replayed.
use Rattle.std.specs.Prelude.{List, ◌++◌, Vec}
use Rattle.std.specs.Global.{Global}
use Rattle.raft_records.specs.FilePart.{Part}
use Rattle.raft_history.specs.Batches.{Event}
use Rattle.raft_history.specs.Histories.{IsSmall}
use Rattle.raft_replay.specs.PieceMerges.{histories_in_turn, StandForEach}
use Rattle.raft_replay.specs.Segments.{SegmentsHold}

-- the machines stand exactly for histories which, one after the other, are what the segments read as
pub record AreInOrder {M : Type 0} (stands_exactly : M → List Event → Type 0) (segments : List (Vec Part Global)) (machines : List M) : Type 0 where
  pub histories : List (List Event)
  pub held : SegmentsHold segments (histories_in_turn histories)
  pub stand : IsSmall (histories_in_turn histories) → StandForEach stands_exactly machines histories

-- the machines and one more, which goes on, stand exactly for histories which, one after the other, are what the segments read as
pub record IsUnderway {M : Type 0} (stands_exactly : M → List Event → Type 0) (segments : List (Vec Part Global)) (machines : List M) (current : M) : Type 0 where
  pub histories : List (List Event)
  pub last : List Event
  pub held : SegmentsHold segments (histories_in_turn histories ++ last)
  pub stand : IsSmall (histories_in_turn histories ++ last) → StandForEach stands_exactly machines histories
  pub exact : IsSmall (histories_in_turn histories ++ last) → stands_exactly current last
