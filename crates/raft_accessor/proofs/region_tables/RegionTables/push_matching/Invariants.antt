use Rattle.raft_accessor.proofs.Common.{map, FoldsTo, Collects}
use Rattle.raft_accessor.proofs.region_tables.RegionTables.push_matching.Given as goal

abbrev pub invariant-loop-table : goal.invariant-loop-table
invariant-loop-table g l =
    goal.F-IsAlwaysCallable g l.f
    × ((last : _) → FoldsTo (Collects g.F.FnMut) (l.f, map (λ t. t.now) l.tables.items) l.table-iterator last → FoldsTo (Collects g.F.FnMut) (l.fn.f, map (λ t. t.now) l.fn.tables.items) l.initial.table-iterator last)
