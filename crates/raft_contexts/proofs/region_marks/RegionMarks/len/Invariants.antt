use Rattle.raft_contexts.proofs.Common.{◌≡◌, ◌≤◌, ◌+◌, ◌*◌, ◌^◌, length, map, drop, Mark, slot_entries, added}
use Rattle.raft_contexts.proofs.region_marks.RegionMarks.len.Given as goal

abbrev pub invariant-loop-slot : goal.invariant-loop-slot
invariant-loop-slot l =
    (l.count + added (λ (m : Mark). 1) (map (λ e. e.1) (slot_entries (drop l.slot-index l.slot-items))) ≡ added (λ (m : Mark). 1) (map (λ e. e.1) (slot_entries l.slot-items)))
    × (l.count + l.slot-index ≤ l.slot-index * 2 ^ 57) × (length l.slot-items ≤ 128)
