use Rattle.std.proofs.Common.{arith}
use Rattle.raft_size.proofs.SizeDigitLemmas.{digit_code, value_after-more}
use Rattle.raft_size.proofs.size_number.value_up_to.Goals as goal

pub overflow_sub-digit : goal.overflow_sub-digit
overflow_sub-digit c = (digit_code c.args.digits.now c.loop-digit.digit-index c.requires.digits (omega arith)).0

pub loop-digit-preserved : goal.loop-digit-preserved
loop-digit-preserved c =
    let code = digit_code c.args.digits.now c.loop-digit.digit-index c.requires.digits (omega arith) in
    rw (value_after-more c.args.start c.args.digits.now c.loop-digit.digit-index (omega arith)) (omega (arith, code.1, c.loop-digit.invariant))
