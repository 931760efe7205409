use Rattle.raft_reading.proofs.Common.{inr, arith, one_header}
use Rattle.raft_reading.proofs.file_pieces.bytes_wanted.Goals as goal
use Rattle.raft_reading.proofs.file_pieces.bytes_wanted.Goals.{then-bytes-lt-HEADER_LEN, else-bytes-lt-HEADER_LEN+in-Some}

pub returns-in_default-clause-none : goal.returns-in_default-clause-none
returns-in_default-clause-none c _ = inr (omega (arith, c.if-bytes-lt-HEADER_LEN.false), λ offset len h. absurd (c.in_default.ensures.none offset len h))

pub returns-then-missing-left-clause-none : goal.returns-then-missing-left-clause-none
returns-then-missing-left-clause-none c _ =
    elim c.if-bytes-lt-HEADER_LEN.branch [
      | then-bytes-lt-HEADER_LEN w ↦ absurd (omega (arith, w.missing-is, c.if-missing-left.true))
      | else-bytes-lt-HEADER_LEN+in-Some w ↦ inr (
        omega (arith, w.if-bytes-lt-HEADER_LEN.false),
        λ offset len h.
            let same = one_header c.args.bytes.now _ _ offset len w.in-Some.ensures.some h in
            omega (arith, same, w.missing-is, c.if-missing-left.true),
      )
    ]
