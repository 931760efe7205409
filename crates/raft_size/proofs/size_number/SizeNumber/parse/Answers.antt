use Rattle.raft_size.proofs.Common.{◌+◌, ◌<◌, length, sym, ◌∙◌, arith, eqb-true, eqb-false}
use Rattle.raft_size.proofs.SizeNumberLemmas.{taken_by, taken_number, no_digit, no_exponent, IfNone-from}
use Rattle.raft_size.proofs.size_number.SizeNumber.parse.Goals as goal
use Rattle.raft_size.proofs.size_number.SizeNumber.parse.Goals.{else-is_empty-via-then-is_empty+else-is_empty-2, else-is_empty-via-else-is_empty}

pub returns-then-is_empty-2-clause-none : goal.returns-then-is_empty-2-clause-none
returns-then-is_empty-2-clause-none c =
    let taken = taken_by c.args.text.now c.split_sign-is_negative.result.0 c.split_sign-is_negative.result.1.now c.split_digits.result.0.now c.split_digits.result.1.now c.split_fraction.result.0.now c.split_fraction.result.1.now
    c.split_sign-is_negative.ensures.minus c.split_sign-is_negative.ensures.rest c.split_digits.ensures.split c.split_digits.ensures.digits
    c.split_digits.ensures.stops c.split_fraction.ensures.split c.split_fraction.ensures.digits c.split_fraction.ensures.stops in
    no_digit _ _ _ _ _ taken (eqb-true _ 0 (sym c.is_empty.ensures ∙ c.if-is_empty.true)) (eqb-true _ 0 (sym c.is_empty-then-is_empty.ensures ∙ c.if-is_empty-2.true))

pub returns-in_err-is_exponent_negative-clause-none : goal.returns-in_err-is_exponent_negative-clause-none
returns-in_err-is_exponent_negative-clause-none c =
    let taken = taken_by c.args.text.now c.split_sign-is_negative.result.0 c.split_sign-is_negative.result.1.now c.split_digits.result.0.now c.split_digits.result.1.now c.split_fraction.result.0.now c.split_fraction.result.1.now
    c.split_sign-is_negative.ensures.minus c.split_sign-is_negative.ensures.rest c.split_digits.ensures.split c.split_digits.ensures.digits
    c.split_digits.ensures.stops c.split_fraction.ensures.split c.split_fraction.ensures.digits c.split_fraction.ensures.stops in
    IfNone-from c.from_residual.result (no_exponent _ _ _ _ _ taken c.in_err-is_exponent_negative.ensures.none)

pub returns-clause-number : goal.returns-clause-number
returns-clause-number c =
    let taken = taken_by c.args.text.now c.split_sign-is_negative.result.0 c.split_sign-is_negative.result.1.now c.split_digits.result.0.now c.split_digits.result.1.now c.split_fraction.result.0.now c.split_fraction.result.1.now
    c.split_sign-is_negative.ensures.minus c.split_sign-is_negative.ensures.rest c.split_digits.ensures.split c.split_digits.ensures.digits
    c.split_digits.ensures.stops c.split_fraction.ensures.split c.split_fraction.ensures.digits c.split_fraction.ensures.stops in
    let whole = c.split_digits.result.0.now in
    let fraction = c.split_fraction.result.0.now in
    let some : 0 < length whole + length fraction = elim c.else-is_empty.branch [
      | else-is_empty-via-then-is_empty+else-is_empty-2 w ↦ omega (arith, eqb-false _ 0 (sym w.is_empty-then-is_empty.ensures ∙ w.if-is_empty-2.false))
      | else-is_empty-via-else-is_empty w ↦ omega (arith, eqb-false _ 0 (sym c.is_empty.ensures ∙ w.if-is_empty.false))
    ] in
    taken_number _ _ _ taken some c.in_ok-is_exponent_negative.ensures.exponent
