use Rattle.raft_contexts.proofs.Common.{◌≡◌, ℕ, together, AreSlots}
use Rattle.raft_contexts.proofs.OverlayingLemmas.{AreOverlaying}
use Rattle.raft_contexts.proofs.marked_tables.MarkedTables.overlay_marked.Given as goal

abbrev pub invariant-loop-slot : goal.invariant-loop-slot
invariant-loop-slot l =
    AreOverlaying l.fn.appended.tables l.fn.self.accessor.tables l.fn.marks l.self.accessor.tables l.appended.tables (together l.slot-iterator.rest.items)
    × ((k : ℕ) × AreSlots k l.slot-iterator.rest.items) × (l.appended.cleaned ≡ l.fn.appended.cleaned)
