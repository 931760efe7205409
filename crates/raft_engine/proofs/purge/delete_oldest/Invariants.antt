use Rattle.raft_engine.proofs.Common.{◌≡◌, ◌++◌, delete_asks}
use Rattle.raft_engine.proofs.purge.delete_oldest.Given as goal

-- one file for each turn was deleted
abbrev pub invariant-loop : goal.invariant-loop
invariant-loop g l = g.F.EngineFiles.asked l.files ≡ delete_asks l.queue l.counter ++ g.F.EngineFiles.asked l.fn.files
