use Rattle.raft_contexts.proofs.Common.{◌≡◌, nat_eq, IsDistinct, keys_of}
use Rattle.std.specs.FinMap as finite
use Rattle.raft_contexts.proofs.OverlayingLemmas.{AreOverlaying}
use Rattle.raft_contexts.proofs.marked_tables.MarkedTables.overlay_marked_slot.Given as goal

abbrev pub invariant-loop-id : goal.invariant-loop-id
invariant-loop-id l =
    AreOverlaying l.fn.appended.tables l.fn.self.accessor.tables l.fn.marks l.self.accessor.tables l.appended.tables (finite.from_entries l.id-iterator)
    × IsDistinct nat_eq (keys_of l.id-iterator) × (l.appended.cleaned ≡ l.fn.appended.cleaned)
