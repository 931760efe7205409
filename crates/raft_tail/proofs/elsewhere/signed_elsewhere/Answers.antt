use Rattle.raft_tail.proofs.Common.{ap, length, arith}
use Rattle.raft_tail.proofs.SearchLemmas.{elsewhere_inside, none_at_all, one_more_none}
use Rattle.raft_tail.proofs.elsewhere.signed_elsewhere.Goals as goal

pub loop-at-preserved : goal.loop-at-preserved
loop-at-preserved c = one_more_none c.loop-at.invariant (rw c.in_default-2.is at c.in_ok-seq.ensures.ok)

pub returns-clause-ok : goal.returns-clause-ok
returns-clause-ok c = none_at_all c.loop-at.invariant (omega (arith, c.loop-at-test.false, ap length c.bytes-at-end.ensures)) (elsewhere_inside c.args.part.now)
