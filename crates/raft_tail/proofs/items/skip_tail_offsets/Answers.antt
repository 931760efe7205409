use Rattle.raft_tail.proofs.Common.{arith}
use Rattle.raft_tail.proofs.PassingLemmas.{no_tails_yet, one_tail_more, tails_end, tails_pass}
use Rattle.raft_tail.proofs.items.skip_tail_offsets.Goals as goal

pub loop-init : goal.loop-init
loop-init c = no_tails_yet c.args.first c.args.start c.args.bytes.now

pub returns-in_err-tail : goal.returns-in_err-tail
returns-in_err-tail c = rw c.from_residual.ensures (tails_end c.args.count c.loop.invariant c.loop-test.true c.in_err-tail.ensures.tail)

pub loop-preserved : goal.loop-preserved
loop-preserved c = one_tail_more c.loop.invariant c.in_ok-tail.ensures.ends c.in_ok-tail.ensures.tail

pub returns : goal.returns
returns c = tails_pass c.loop.invariant (omega (arith, c.loop-test.false, c.loop.auto.counter-end))
