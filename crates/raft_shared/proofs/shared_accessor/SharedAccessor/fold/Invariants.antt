use Rattle.raft_shared.proofs.Common.{List, FoldsTo, Table, Makes}
use Rattle.raft_shared.proofs.shared_accessor.SharedAccessor.fold.Given as goal

abbrev pub invariant-loop-slot : goal.invariant-loop-slot
invariant-loop-slot g l = (done : List Table) × FoldsTo (Makes g.F.FnMut) (l.fn.f, l.fn.init) done (l.f, l.answer)
