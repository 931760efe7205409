use Rattle.raft_accessor.proofs.Common.{◌≡◌, List, ◌++◌, Tables, slot_entries, with_neighbor}
use Rattle.raft_accessor.proofs.MergeLemmas.{Joins}
use Rattle.raft_accessor.proofs.accessor.MemTableAccessor.merge_neighbors.Given as goal

-- the tables of the slots that are done are merged; with those that are left they are all
abbrev pub invariant-loop-slot : goal.invariant-loop-slot
invariant-loop-slot l =
    (done : List Tables) × (done ++ l.slot-iterator.rest.items ≡ l.initial.slot-iterator.rest.items) × Joins (with_neighbor l.kind) l.fn.self.tables (slot_entries done) l.self.tables × (l.self.cleaned ≡ l.fn.self.cleaned)
