use Rattle.raft_contexts.proofs.Common.{◌≡◌, ◌≤◌, ◌+◌, length, AreSlots, implied_marks, together, regions_in}
use Rattle.raft_contexts.proofs.JoiningLemmas.{AreJoining}
use Rattle.raft_contexts.proofs.marked_tables.MarkedTables.join_unmarked.Given as goal

abbrev pub invariant-loop-slot : goal.invariant-loop-slot
invariant-loop-slot l =
    AreJoining l.fn.queue l.fn.tables.tables (regions_in l.fn.self) (implied_marks l.fn.tables.tables) (regions_in l.self) (together l.slot-iterator.rest.items) (implied_marks (together l.slot-iterator.rest.items))
    × AreSlots l.number l.slot-iterator.rest.items × (l.number + length l.slot-iterator.rest.items ≤ 128)
    × (l.self.accessor.cleaned ≡ l.fn.self.accessor.cleaned)
