use Rattle.raft_contexts.proofs.Common.{◌≡◌, ◌≤◌, ◌+◌, ◌*◌, ◌^◌, length, drop, keys_of, slot_entries, count_absent}
use Rattle.raft_contexts.proofs.region_marks.RegionMarks.count_without_table.Given as goal

abbrev pub invariant-loop-slot : goal.invariant-loop-slot
invariant-loop-slot l =
    (l.count + count_absent l.tables.tables (keys_of (slot_entries (drop l.slot-index l.slot-items))) ≡ count_absent l.tables.tables (keys_of (slot_entries l.slot-items)))
    × (l.count + l.slot-index ≤ l.slot-index * 2 ^ 57) × (length l.slot-items ≤ 128)
