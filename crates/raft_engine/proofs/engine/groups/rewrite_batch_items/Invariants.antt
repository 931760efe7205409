use Rattle.raft_engine.proofs.Common.{None, Rewriting}
use Rattle.raft_engine.proofs.GroupPutLemmas.{AreWrittenSoFar}
use Rattle.raft_engine.proofs.engine.groups.rewrite_batch_items.Given as goal

abbrev pub invariant-loop-batch : goal.invariant-loop-batch
invariant-loop-batch l = AreWrittenSoFar (Rewriting None l.seq) l.fn.batches.items l.fn.accessor l.accessor l.batch-iterator.rest.items
