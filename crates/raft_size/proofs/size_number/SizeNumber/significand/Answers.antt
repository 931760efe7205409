use Rattle.raft_size.proofs.Common.{◌^◌, arith, digits_of, number_shown}
use Rattle.raft_size.proofs.SizeDigitLemmas.{AllDigits-append, value_held, few_digits, many_digits}
use Rattle.raft_size.proofs.size_number.SizeNumber.significand.Goals as goal

pub returns-then-value-lt-SIGNIFICAND_LIMIT-clause-value : goal.returns-then-value-lt-SIGNIFICAND_LIMIT-clause-value
returns-then-value-lt-SIGNIFICAND_LIMIT-clause-value c =
    let n = number_shown c.args.self.now in
    let held = value_held (10 ^ 20) _ _ n.whole n.fraction c.value_up_to-whole.ensures c.value_up_to-value.ensures in
    omega (arith, held)

pub returns-then-value-lt-SIGNIFICAND_LIMIT-clause-few : goal.returns-then-value-lt-SIGNIFICAND_LIMIT-clause-few
returns-then-value-lt-SIGNIFICAND_LIMIT-clause-few c =
    let n = number_shown c.args.self.now in
    let held = value_held (10 ^ 20) _ _ n.whole n.fraction c.value_up_to-whole.ensures c.value_up_to-value.ensures in
    few_digits (digits_of n) (AllDigits-append n.whole n.fraction c.requires.whole c.requires.fraction) (omega (arith, held))

pub returns-else-value-lt-SIGNIFICAND_LIMIT-clause-many : goal.returns-else-value-lt-SIGNIFICAND_LIMIT-clause-many
returns-else-value-lt-SIGNIFICAND_LIMIT-clause-many c =
    let n = number_shown c.args.self.now in
    let held = value_held (10 ^ 20) _ _ n.whole n.fraction c.value_up_to-whole.ensures c.value_up_to-value.ensures in
    many_digits (digits_of n) (AllDigits-append n.whole n.fraction c.requires.whole c.requires.fraction) (omega (arith, held))
