use Rattle.raft_engine.proofs.Common.{take, drop}
use Rattle.raft_engine.proofs.GroupPutLemmas.{ArePutSoFar}
use Rattle.raft_engine.proofs.group_puts.put_batches.Given as goal

-- the first batches are put, in their places
abbrev pub invariant-loop-batch : goal.invariant-loop-batch
invariant-loop-batch g l =
    ArePutSoFar l.file l.offset l.fn.batches.items (g.F.EngineFiles.asked l.fn.files) (g.F.EngineFiles.asked l.files) (take l.batch-index l.batch-items) l.at (drop l.batch-index l.batch-items)
