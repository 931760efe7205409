use Rattle.std.proofs.Common.{map, take}
use Rattle.raft_contexts.proofs.TakenAwayLemmas.{AreTablesTold}
use Rattle.raft_contexts.proofs.marked_tables.MarkedTables.taken_away.Given as goal

abbrev pub invariant-loop-table : goal.invariant-loop-table
invariant-loop-table l = AreTablesTold l.self (map (λ t. t.now) (take l.table-index l.table-items)) l.taken
