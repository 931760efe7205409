use Rattle.raft_contexts.proofs.Common.{◌≡◌, nat_eq, IsDistinct, keys_of, regions_in}
use Rattle.std.specs.FinMap as finite
use Rattle.raft_contexts.proofs.JoiningLemmas.{AreJoining}
use Rattle.raft_contexts.proofs.marked_tables.MarkedTables.join_marked_slot.Given as goal

abbrev pub invariant-loop-id : goal.invariant-loop-id
invariant-loop-id l =
    AreJoining l.fn.queue l.fn.tables.tables (regions_in l.fn.self) l.fn.marks (regions_in l.self) l.tables.tables (finite.from_entries l.id-iterator)
    × IsDistinct nat_eq (keys_of l.id-iterator) × (l.self.accessor.cleaned ≡ l.fn.self.accessor.cleaned) × (l.tables.cleaned ≡ l.fn.tables.cleaned)
