-- The region marks of one slot, in a hash map, as their contracts see them.
use Rattle.std.specs.Prelude.{◌<◌, ◌^◌, length}
use Rattle.std.specs.FinMap as finite
use Rattle.raft_history.specs.MarkedRegions.{Marks}
use Rattle.raft_contexts.specs.declared.region_marks.slot.SlotMarks.TheInside.{Inside}

-- the region marks as a map
abbrev pub slot_shown : Inside → Marks
slot_shown a = finite.from_entries a.marks.entries

-- there are so few that those of all slots can be counted
abbrev pub AreFewMarks : Inside → Type 0
AreFewMarks a = length a.marks.entries < 2 ^ 57
