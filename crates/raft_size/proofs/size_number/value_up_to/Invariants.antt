use Rattle.raft_size.proofs.Common.{◌≡◌, min, take, digits_value_after}
use Rattle.raft_size.proofs.size_number.value_up_to.Given as goal

abbrev pub invariant-loop-digit : goal.invariant-loop-digit
invariant-loop-digit l = l.value ≡ min l.limit (digits_value_after 10 l.start (take l.digit-index l.digits))
