-- What a machine stands for once it has replayed what is read, and when it can't.
use Rattle.std.specs.Prelude.{List, ◌++◌, Vec}
use Rattle.std.specs.Global.{Global}
use Rattle.raft_records.specs.FilePart.{Part}
use Rattle.raft_history.specs.Batches.{Event}
use Rattle.raft_history.specs.Histories.{IsSmall, Sound, Apart}
use Rattle.raft_replay.specs.Segments.{SegmentsHold}

-- the machine has replayed all that is read: it stands for that after whatever it stood for, and exactly if it did exactly
pub record HasReplayed {M : Type 0} (IsHistory : List Event → Type 0) (stands_for stands_exactly : M → List Event → Type 0) (old new : M) : Type 0 where
  pub history : List Event
  pub held : IsHistory history
  pub stands : (h : List Event) → IsSmall (h ++ history) → stands_for old h → stands_for new (h ++ history)
  pub exact : (h : List Event) → IsSmall (h ++ history) → stands_exactly old h → stands_exactly new (h ++ history)

-- whatever is read, after a history that the machine stood for it makes none that can be read
pub record CannotFollow (IsHistory Stood : List Event → Type 0) : Type 0 where
  pub unsound : (h g : List Event) → IsHistory g → IsSmall (h ++ g) → Stood h → ¬ (Sound (h ++ g))

-- the machine stands for the batches of all segments, in order, and exactly where effects are apart
pub record IsReplayed {M : Type 0} (stands_for stands_exactly : M → List Event → Type 0) (segments : List (Vec Part Global)) (machine : M) : Type 0 where
  pub history : List Event
  pub held : SegmentsHold segments history
  pub stands : IsSmall history → stands_for machine history
  pub exact : IsSmall history → Apart history → stands_exactly machine history
