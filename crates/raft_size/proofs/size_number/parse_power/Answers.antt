use Rattle.raft_size.proofs.Common.{sym, ◌∙◌, arith, eqb-true, eqb-false}
use Rattle.raft_size.proofs.SizeDigitLemmas.{numeral_whole}
use Rattle.raft_size.proofs.size_number.parse_power.Goals as goal
use Rattle.raft_size.proofs.size_number.parse_power.Goals.{then-is_empty-via-then-is_empty, then-is_empty-via-else-is_empty+then-not-is_empty}

pub returns-then-is_empty-clause-none : goal.returns-then-is_empty-clause-none
returns-then-is_empty-clause-none c = λ numeral.
    let whole = numeral_whole _ c.split_digits.result.0.now c.split_digits.result.1.now (sym c.split_sign-is_negative.ensures.rest ∙ c.split_digits.ensures.split) c.split_digits.ensures.digits c.split_digits.ensures.stops numeral in
    elim c.then-is_empty.branch [
      | then-is_empty-via-then-is_empty w ↦ omega (arith, whole.0, eqb-true _ 0 (sym c.is_empty.ensures ∙ w.if-is_empty.true))
      | then-is_empty-via-else-is_empty+then-not-is_empty w ↦ absurd (eqb-false _ 0 (sym w.is_empty-else-is_empty.ensures ∙ w.if-not-is_empty.true) whole.1)
    ]
