use Rattle.raft_shared.proofs.Common.{List, [], FoldsTo, Table, KeepsId}
use Rattle.raft_shared.proofs.shared_accessor.SharedAccessor.collect.Given as goal

abbrev pub invariant-loop-slot : goal.invariant-loop-slot
invariant-loop-slot g l = (done : List Table) × FoldsTo (KeepsId g.F.FnMut) (l.fn.f, []) done (l.f, l.ids.items)
