use Rattle.raft_engine.proofs.GroupPutLemmas.{AreMadeSoFar}
use Rattle.raft_engine.proofs.group_puts.encode_batches.Given as goal

abbrev pub invariant-loop-batch : goal.invariant-loop-batch
invariant-loop-batch l = AreMadeSoFar l.fn.batches.items l.offset l.made.items l.end l.batch-iterator.rest.items
