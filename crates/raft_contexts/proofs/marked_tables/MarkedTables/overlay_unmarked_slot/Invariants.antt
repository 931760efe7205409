use Rattle.raft_contexts.proofs.Common.{◌≡◌, nat_eq, IsDistinct, keys_of, implied_marks}
use Rattle.raft_contexts.proofs.OverlayingLemmas.{AreOverlaying}
use Rattle.raft_contexts.proofs.PartLemmas.{tables_of}
use Rattle.raft_contexts.proofs.marked_tables.MarkedTables.overlay_unmarked_slot.Given as goal

abbrev pub invariant-loop-id : goal.invariant-loop-id
invariant-loop-id l =
    AreOverlaying l.fn.appended l.fn.self.accessor.tables (implied_marks l.fn.appended) l.self.accessor.tables (tables_of l.id-iterator) (implied_marks (tables_of l.id-iterator))
    × IsDistinct nat_eq (keys_of l.id-iterator) × (l.self.accessor.cleaned ≡ l.fn.self.accessor.cleaned)
