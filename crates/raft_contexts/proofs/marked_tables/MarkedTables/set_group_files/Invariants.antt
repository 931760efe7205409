use Rattle.raft_contexts.proofs.Common.{drop, Result, Error, on_each, AtomicGroup, AreStepsTaken, MarkedTables, Rewrite}
use Rattle.raft_contexts.proofs.marked_tables.MarkedTables.set_group_files.Given as goal

abbrev pub invariant-loop-id : goal.invariant-loop-id
invariant-loop-id l =
    (r : Result Unit Error) (c : MarkedTables) → AreStepsTaken Rewrite (on_each (drop l.id-index l.regions) (AtomicGroup l.first_seq l.last_seq)) r
    l.self c → AreStepsTaken Rewrite (on_each l.regions (AtomicGroup l.first_seq l.last_seq)) r l.fn.self c
