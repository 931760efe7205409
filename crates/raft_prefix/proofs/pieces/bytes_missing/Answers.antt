use Rattle.raft_prefix.proofs.Common.{inr, arith, one_header}
use Rattle.raft_prefix.proofs.pieces.bytes_missing.Goals as goal

pub returns-in_err-len-clause-none : goal.returns-in_err-len-clause-none
returns-in_err-len-clause-none c = rw c.from_residual.ensures (omega (arith, c.if-bytes-lt-HEADER_LEN.false), λ offset len h. absurd (c.in_err-len.ensures.none offset len h))

pub returns-then-len-bytes-clause-none : goal.returns-then-len-bytes-clause-none
returns-then-len-bytes-clause-none c = (
  omega (arith, c.if-bytes-lt-HEADER_LEN.false),
  λ offset len h. let same = one_header c.args.bytes.now _ _ offset len c.in_ok-len.ensures.some h in omega (arith, same, c.if-len-bytes.true),
)

pub returns-clause-some : goal.returns-clause-some
returns-clause-some c = inr (
  omega (arith, c.if-bytes-lt-HEADER_LEN.false),
  λ offset len h. let same = one_header c.args.bytes.now _ _ offset len c.in_ok-len.ensures.some h in omega (arith, same, c.if-len-bytes.false),
)
