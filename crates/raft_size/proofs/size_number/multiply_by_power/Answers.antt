use Rattle.std.proofs.Common.{sym, arith}
use Rattle.raft_size.proofs.SizeScalingLemmas.{raised_away}
use Rattle.raft_size.proofs.size_number.multiply_by_power.Goals as goal

pub returns-else-value-eq0 : goal.returns-else-value-eq0
returns-else-value-eq0 c = sym (raised_away c.args.value c.args.power 0 (omega arith) (omega arith))
