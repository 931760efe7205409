use Rattle.raft_opening.proofs.Common.{inl, inr, refl}
use Rattle.raft_opening.proofs.piece_reading.read_in_pieces.Goals as goal

pub returns-in-Err-Memory-clause-err : goal.returns-in-Err-Memory-clause-err
returns-in-Err-Memory-clause-err g c = λ append rewrite sized. inr (inl (λ other. absurd (other refl)))
