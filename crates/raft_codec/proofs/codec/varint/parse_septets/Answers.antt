use Rattle.raft_codec.proofs.Common.{arith, inl, inr, take_rest}
use Rattle.raft_codec.proofs.VarintLemmas.{last_septet, sum_fits, next_septet, is_too_long, too_long, is_early, ends_early}
use Rattle.raft_codec.proofs.codec.varint.parse_septets.Goals as goal

pub returns-then-byte-gt1-clause-refused : goal.returns-then-byte-gt1-clause-refused
returns-then-byte-gt1-clause-refused c =
    too_long c.args.bytes.now (is_too_long c.args.bytes.now c.loop-i.i c.if-i.true (omega arith) c.loop-i.invariant.0 c.if-byte-gt1.true)

pub returns-then-byte-gt1-clause-fault : goal.returns-then-byte-gt1-clause-fault
returns-then-byte-gt1-clause-fault c =
    inr (is_too_long c.args.bytes.now c.loop-i.i c.if-i.true (omega arith) c.loop-i.invariant.0 c.if-byte-gt1.true, c.new.ensures.kind)

pub overflow_add-number : goal.overflow_add-number
overflow_add-number c =
    omega (arith, c.septet_value-number.ensures, sum_fits c.args.bytes.now c.loop-i.i c.loop-i.number (omega arith) c.loop-i.invariant.2 (λ nine. omega arith) c.loop-i.invariant.1)

pub returns-then-byte-lt128-clause-ok : goal.returns-then-byte-lt128-clause-ok
returns-then-byte-lt128-clause-ok c =
    rw (take_rest, c.septet_value-number.ensures) (last_septet c.args.bytes.now c.loop-i.i c.loop-i.number (omega arith) c.loop-i.invariant.2 (λ nine. omega arith) c.loop-i.invariant.0 c.loop-i.invariant.1 c.if-byte-lt128.true)

pub loop-i-preserved : goal.loop-i-preserved
loop-i-preserved c =
    let next = next_septet c.args.bytes.now c.loop-i.i c.loop-i.number (omega arith) c.loop-i.invariant.0 c.loop-i.invariant.1 c.if-byte-lt128.false (omega (arith, c.type_inv.bytes c.loop-i.i)) in
    (next.0, rw c.septet_value-number.ensures next.1, omega arith)

pub returns-clause-refused : goal.returns-clause-refused
returns-clause-refused c =
    ends_early c.args.bytes.now (is_early c.args.bytes.now c.loop-i.i (omega arith) c.loop-i.invariant.2 c.loop-i.invariant.0)

pub returns-clause-fault : goal.returns-clause-fault
returns-clause-fault c =
    inl (is_early c.args.bytes.now c.loop-i.i (omega arith) c.loop-i.invariant.2 c.loop-i.invariant.0, c.unexpected_eof.ensures)
