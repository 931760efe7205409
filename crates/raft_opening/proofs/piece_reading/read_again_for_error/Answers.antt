use Rattle.raft_opening.proofs.Common.{inl, inr}
use Rattle.raft_opening.proofs.piece_reading.read_again_for_error.Goals as goal

pub returns-in-Ok : goal.returns-in-Ok
returns-in-Ok g c = λ append rewrite sized. inr (inr (record {
  accepted = c.in-Ok.ensures.accepted append rewrite sized;
  reading = _;
  read = c.in-Ok.ensures.ok append rewrite sized;
  told = c.corruption.ensures;
}))

pub returns : goal.returns
returns g c = λ append rewrite sized. elim (c.in-Err.ensures.fault append rewrite sized) [
  | inl unread ↦ inl unread
  | inr refused ↦ inr (inl refused)
]
