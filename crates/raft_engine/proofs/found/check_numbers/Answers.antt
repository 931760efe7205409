use Rattle.raft_engine.proofs.Common.{err_from_is_err_and, arith}
use Rattle.raft_engine.proofs.FileNumbers.{next_read, read_more, stand_together}
use Rattle.raft_engine.proofs.found.check_numbers.Goals as goal

pub returns-in_err-check_next-clause-refused : goal.returns-in_err-check_next-clause-refused
returns-in_err-check_next-clause-refused c =
    let p = err_from_is_err_and c.from_residual.result c.from_residual.ensures.1 in
    rw (p.1, p.2) (λ other. record {
      last = c.loop-seq.last;
      next = c.loop-seq-item.result.0;
      together = stand_together _ _ _ _ (next_read _ _ c.in-Some.rest.now c.loop-seq.seq-index c.loop-seq-item.result _ (omega (arith, c.loop-seq-test.true)) c.loop-seq-item.is c.loop-seq.invariant);
      why = c.in_err-check_next.ensures.refused other;
    })

pub loop-seq-preserved : goal.loop-seq-preserved
loop-seq-preserved c =
    read_more _ _ _ _ (next_read _ _ c.in-Some.rest.now c.loop-seq.seq-index c.loop-seq-item.result _ (omega (arith, c.loop-seq-test.true)) c.loop-seq-item.is c.loop-seq.invariant)
    c.in_ok-check_next.ensures.ok
