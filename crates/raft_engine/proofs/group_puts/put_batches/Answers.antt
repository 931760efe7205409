use Rattle.raft_engine.proofs.Common.{err_from_is_err_and, arith, refl}
use Rattle.raft_engine.proofs.GroupPutLemmas.{fails_at, low_at, made_at, may_put_at, one_put_at, size_at}
use Rattle.raft_engine.proofs.group_puts.put_batches.Goals as goal

pub put_batch-requires-clause-encoded : goal.put_batch-requires-clause-encoded
put_batch-requires-clause-encoded g c = made_at c.args.file.now c.args.offset c.args.batches.items _ _
    c.loop-batch.batch-items c.loop-batch.batch-index c.loop-batch.at c.batch-item.result (omega arith) c.loop-batch.invariant

pub put_batch-requires-clause-offset : goal.put_batch-requires-clause-offset
put_batch-requires-clause-offset g c = low_at c.args.file.now c.args.offset c.args.batches.items _ _
    c.loop-batch.batch-items c.loop-batch.batch-index c.loop-batch.at c.batch-item.result (omega arith) c.loop-batch.invariant

pub put_batch-requires-clause-len : goal.put_batch-requires-clause-len
put_batch-requires-clause-len g c =
    size_at c.args.file.now c.args.offset c.args.batches.items _ _
    c.loop-batch.batch-items c.loop-batch.batch-index c.loop-batch.at c.batch-item.result (omega arith) c.loop-batch.invariant _ c.approximate_size-len.ensures.size

pub returns-in_err-put_batch-clause-err : goal.returns-in_err-put_batch-clause-err
returns-in_err-put_batch-clause-err g c =
    let p = err_from_is_err_and c.from_residual.result c.from_residual.ensures.1 in
    rw (p.1) (may_put_at c.args.file.now c.args.offset c.args.batches.items _ _
    c.loop-batch.batch-items c.loop-batch.batch-index c.loop-batch.at c.batch-item.result (omega arith) c.loop-batch.invariant _ c.in_err-put_batch.ensures.err)

pub returns-in_err-put_batch-clause-fault : goal.returns-in_err-put_batch-clause-fault
returns-in_err-put_batch-clause-fault g c =
    let p = err_from_is_err_and c.from_residual.result c.from_residual.ensures.1 in
    rw (p.1, p.2) (fails_at (g.F.EngineFiles.may_fail) c.args.file.now c.args.offset c.args.batches.items _ _
    c.loop-batch.batch-items c.loop-batch.batch-index c.loop-batch.at c.batch-item.result (omega arith) c.loop-batch.invariant _ _ c.in_err-put_batch.ensures.err c.in_err-put_batch.ensures.fault)

pub loop-batch-preserved : goal.loop-batch-preserved
loop-batch-preserved g c =
    one_put_at c.args.file.now c.args.offset c.args.batches.items _ _
    c.loop-batch.batch-items c.loop-batch.batch-index c.loop-batch.at c.batch-item.result (omega arith) c.loop-batch.invariant _ c.put_batch.new.batch
    c.approximate_size-len.result _ c.in_ok-put_batch.ensures.ok c.in_ok-put_batch.ensures.placed c.approximate_size-len.ensures.size refl
