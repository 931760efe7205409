-- The region marks of regions, in slots, as their contracts see them.
use Rattle.std.specs.Prelude.{◌≡◌, ◌⊎◌, length}
use Rattle.raft_history.specs.MarkedRegions.{Marks}
use Rattle.raft_accessor.specs.Slots.{together, AreSlots}
use Rattle.raft_contexts.specs.declared.region_marks.RegionMarks.TheInside.{Inside}

-- the region marks of all slots
abbrev pub marks_shown : Inside → Marks
marks_shown a = together a.slots.items

-- each slot has its own regions, and there are 128 slots or none
pub record AreMarksKept (a : Inside) : Type 0 where
  pub slots : AreSlots 0 a.slots.items
  pub all : (length a.slots.items ≡ 0) ⊎ (length a.slots.items ≡ 128)
