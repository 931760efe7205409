use Rattle.raft_contexts.proofs.Common.{◌≡◌, ◌≤◌, ◌+◌, length, count_absent}
use Rattle.raft_contexts.proofs.region_marks.slot.SlotMarks.count_without_table.Given as goal

abbrev pub invariant-loop-id : goal.invariant-loop-id
invariant-loop-id l =
    (l.count + count_absent l.tables.tables l.id-iterator ≡ count_absent l.tables.tables l.initial.id-iterator)
    × (l.count + length l.id-iterator ≤ length l.initial.id-iterator)
