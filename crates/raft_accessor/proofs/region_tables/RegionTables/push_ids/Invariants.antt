use Rattle.raft_accessor.proofs.Common.{FoldsTo, KeepsId}
use Rattle.raft_accessor.proofs.region_tables.RegionTables.push_ids.Given as goal

abbrev pub invariant-loop-table : goal.invariant-loop-table
invariant-loop-table g l = (last : _) → FoldsTo (KeepsId g.F.FnMut) (l.wanted, l.ids.items) l.table-iterator last → FoldsTo (KeepsId g.F.FnMut) (l.fn.wanted, l.fn.ids.items) l.initial.table-iterator last
