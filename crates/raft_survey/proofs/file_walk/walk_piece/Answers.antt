use Rattle.raft_survey.proofs.Common.{arith, err_from_is_err_and}
use Rattle.raft_survey.proofs.file_walk.walk_piece.Goals as goal

-- the bytes end before the last offset
pub returns-in_err-part-clause-fault : goal.returns-in_err-part-clause-fault
returns-in_err-part-clause-fault g c =
    let p = err_from_is_err_and c.from_residual.result c.from_residual.ensures.1 in
    rw (p.1, p.2) (λ other. let past = c.in_err-part.ensures.refused other in absurd (omega (arith, c.requires, past)))
