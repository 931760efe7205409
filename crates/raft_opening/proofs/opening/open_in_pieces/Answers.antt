use Rattle.raft_opening.proofs.Common.{inl, inr, IfErr-weaker}
use Rattle.raft_opening.proofs.opening.open_in_pieces.Goals as goal

pub returns-in-Ok-clause-err : goal.returns-in-Ok-clause-err
returns-in-Ok-clause-err g c = IfErr-weaker c.open_after_reading.result _ _ (λ unopened half. inr half) c.open_after_reading.ensures.err

pub returns-in-Err-clause-err : goal.returns-in-Err-clause-err
returns-in-Err-clause-err g c = inl (c.requires, c.in-Err.ensures.err)
