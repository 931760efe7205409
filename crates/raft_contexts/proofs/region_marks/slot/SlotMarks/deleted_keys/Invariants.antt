use Rattle.raft_contexts.proofs.Common.{◌≡◌, ◌≤◌, ◌+◌, ◌*◌, ◌^◌, length, Mark, added}
use Rattle.std.specs.FinSet as finset
use Rattle.raft_contexts.proofs.region_marks.slot.SlotMarks.deleted_keys.Given as goal

abbrev pub invariant-loop-mark : goal.invariant-loop-mark
invariant-loop-mark l =
    (l.count + added (λ (m : Mark). finset.len m.deleted) l.mark-iterator ≡ added (λ (m : Mark). finset.len m.deleted) l.initial.mark-iterator)
    × (l.count + length l.mark-iterator * 2 ^ 64 ≤ length l.initial.mark-iterator * 2 ^ 64)
