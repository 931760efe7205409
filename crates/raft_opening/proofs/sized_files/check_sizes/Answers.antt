use Rattle.raft_opening.proofs.Common.{err_from_is_err_and}
use Rattle.raft_opening.proofs.SizedLemmas.{apart_at, more_at}
use Rattle.raft_opening.proofs.sized_files.check_sizes.Goals as goal

pub returns-in_err-check_next-clause-refused : goal.returns-in_err-check_next-clause-refused
returns-in_err-check_next-clause-refused c =
    let p = err_from_is_err_and c.from_residual.result c.from_residual.ensures.1 in
    rw (p.1, p.2) (λ other. apart_at _ _ _ c.in-Some.rest.now c.loop-file.file-index _ _ c.loop-file-test.true c.loop-file.invariant (c.in_err-check_next.ensures.refused other))

pub loop-file-preserved : goal.loop-file-preserved
loop-file-preserved c = more_at _ _ c.in-Some.rest.now c.loop-file.file-index _ c.loop-file-test.true c.loop-file.invariant c.in_ok-check_next.ensures.ok
