use Rattle.raft_engine.proofs.Common.{err_from_is_err_and, None, Rewriting}
use Rattle.raft_engine.proofs.GroupPutLemmas.{group_refused, one_written}
use Rattle.raft_engine.proofs.engine.groups.rewrite_batch_items.Goals as goal

pub loop-batch-preserved : goal.loop-batch-preserved
loop-batch-preserved c =
    one_written (Rewriting None c.args.seq) c.args.batches.items c.args.accessor.now c.loop-batch.accessor c.rewrite_items.new.accessor c.loop-batch.batch-iterator.rest.items c.in-Some.batch
    c.next.new.self.rest.items c.in-Some.ensures.steps.0 c.in_ok-rewrite_items.ensures.ok c.loop-batch.invariant

pub returns-in_err-rewrite_items-clause-fault : goal.returns-in_err-rewrite_items-clause-fault
returns-in_err-rewrite_items-clause-fault c =
    let p = err_from_is_err_and c.from_residual.result c.from_residual.ensures.1 in
    rw (p.1, p.2) (group_refused (Rewriting None c.args.seq) c.args.batches.items c.args.accessor.now c.loop-batch.accessor c.rewrite_items.new.accessor c.in_err-rewrite_items.field-0.0 c.loop-batch.batch-iterator.rest.items c.in-Some.batch
    c.next.new.self.rest.items c.in-Some.ensures.steps.0 c.in_err-rewrite_items.ensures.fault c.loop-batch.invariant)
