use Rattle.raft_accessor.proofs.Common.{◌++◌, [], List, drop, map, IsPermutation, FoldsTo, Table, slot_entries, Collects}
use Rattle.raft_accessor.proofs.accessor.MemTableAccessor.collect.Given as goal

abbrev pub invariant-loop-slot : goal.invariant-loop-slot
invariant-loop-slot g l =
    goal.F-IsAlwaysCallable g l.f
    × (done : List Table) × FoldsTo (Collects g.F.FnMut) (l.fn.f, []) done (l.f, map (λ t. t.now) l.kept.items)
    × IsPermutation (done ++ map (λ e. e.1) (slot_entries (drop l.slot-index l.slot-items))) (map (λ e. e.1) (slot_entries l.slot-items))
