use Rattle.raft_accessor.proofs.Common.{◌++◌, List, drop, map, IsPermutation, FoldsTo, Table, slot_entries, Makes}
use Rattle.raft_accessor.proofs.accessor.MemTableAccessor.fold.Given as goal

abbrev pub invariant-loop-slot : goal.invariant-loop-slot
invariant-loop-slot g l =
    (done : List Table) × FoldsTo (Makes g.F.FnMut) (l.fn.f, l.fn.init) done (l.f, l.answer)
    × IsPermutation (done ++ map (λ e. e.1) (slot_entries (drop l.slot-index l.slot-items))) (map (λ e. e.1) (slot_entries l.slot-items))
