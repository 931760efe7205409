use Rattle.raft_accessor.proofs.Common.{◌≡◌, ℕ, List, ◌++◌, Table, with_neighbor}
use Rattle.raft_accessor.proofs.MergeLemmas.{Joins}
use Rattle.raft_accessor.proofs.accessor.MemTableAccessor.merge_slot.Given as goal

-- the tables that are done are merged; with those that are left they are all
abbrev pub invariant-loop-id : goal.invariant-loop-id
invariant-loop-id l = (done : List (ℕ × Table)) × (done ++ l.id-iterator ≡ l.initial.id-iterator) × Joins (with_neighbor l.kind) l.fn.self.tables done l.self.tables × (l.self.cleaned ≡ l.fn.self.cleaned)
