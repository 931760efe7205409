use Rattle.raft_size.proofs.Common.{take, AllDigits}
use Rattle.raft_size.proofs.size_number.split_digits.Given as goal

abbrev pub invariant-loop-len : goal.invariant-loop-len
invariant-loop-len l = AllDigits 10 (take l.len l.text)
