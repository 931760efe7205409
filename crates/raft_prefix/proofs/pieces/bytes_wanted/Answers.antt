use Rattle.raft_prefix.proofs.Common.{inl, inr, arith}
use Rattle.raft_prefix.proofs.pieces.bytes_wanted.Goals as goal

pub returns-in_default-clause-none : goal.returns-in_default-clause-none
returns-in_default-clause-none c _ = let none = rw c.in_default.is at c.bytes_missing.ensures.none in inr (none.0, λ offset len h. inl (none.1 offset len h))

pub returns-then-missing-left-clause-none : goal.returns-then-missing-left-clause-none
returns-then-missing-left-clause-none c _ = elim (rw c.in-Some.is at c.bytes_missing.ensures.some) [
  | inl few ↦ absurd (let none = few.1 in omega (arith, none, c.if-missing-left.true))
  | inr long ↦ inr (long.0, λ offset len h. inr (let same = long.1 offset len h in omega (arith, same, c.if-missing-left.true)))
]
