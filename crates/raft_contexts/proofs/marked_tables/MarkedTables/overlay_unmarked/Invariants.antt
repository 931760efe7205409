use Rattle.raft_contexts.proofs.Common.{◌≡◌, ℕ, AreSlots, implied_marks, together}
use Rattle.raft_contexts.proofs.OverlayingLemmas.{AreOverlaying}
use Rattle.raft_contexts.proofs.marked_tables.MarkedTables.overlay_unmarked.Given as goal

abbrev pub invariant-loop-slot : goal.invariant-loop-slot
invariant-loop-slot l =
    AreOverlaying l.fn.appended.tables l.fn.self.accessor.tables (implied_marks l.fn.appended.tables) l.self.accessor.tables (together l.slot-iterator.rest.items) (implied_marks (together l.slot-iterator.rest.items))
    × ((k : ℕ) × AreSlots k l.slot-iterator.rest.items) × (l.self.accessor.cleaned ≡ l.fn.self.accessor.cleaned)
