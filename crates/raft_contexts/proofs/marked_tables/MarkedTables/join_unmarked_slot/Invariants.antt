use Rattle.raft_contexts.proofs.Common.{◌≡◌, nat_eq, IsDistinct, keys_of, implied_marks, regions_in}
use Rattle.raft_contexts.proofs.JoiningLemmas.{AreJoining}
use Rattle.raft_contexts.proofs.PartLemmas.{tables_of}
use Rattle.raft_contexts.proofs.marked_tables.MarkedTables.join_unmarked_slot.Given as goal

abbrev pub invariant-loop-id : goal.invariant-loop-id
invariant-loop-id l =
    AreJoining l.fn.queue l.fn.tables (regions_in l.fn.self) (implied_marks l.fn.tables) (regions_in l.self) (tables_of l.id-iterator) (implied_marks (tables_of l.id-iterator))
    × IsDistinct nat_eq (keys_of l.id-iterator) × (l.self.accessor.cleaned ≡ l.fn.self.accessor.cleaned)
