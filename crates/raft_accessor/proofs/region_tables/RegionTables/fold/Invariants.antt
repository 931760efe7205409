use Rattle.raft_accessor.proofs.Common.{FoldsTo, Makes}
use Rattle.raft_accessor.proofs.region_tables.RegionTables.fold.Given as goal

abbrev pub invariant-loop-table : goal.invariant-loop-table
invariant-loop-table g l = (last : _) → FoldsTo (Makes g.F.FnMut) (l.f, l.answer) l.table-iterator last → FoldsTo (Makes g.F.FnMut) (l.fn.f, l.fn.init) l.initial.table-iterator last
