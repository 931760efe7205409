use Rattle.raft_size.proofs.Common.{arith, digits_more}
use Rattle.raft_size.proofs.size_number.split_digits.Goals as goal

pub loop-len-preserved : goal.loop-len-preserved
loop-len-preserved c = digits_more 10 c.args.text.now c.loop-len.len (omega arith) c.loop-len.invariant c.if-not-is_ascii_digit.ensures.bound
