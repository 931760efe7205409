use Rattle.raft_tail.proofs.Common.{arith}
use Rattle.raft_tail.proofs.PassingLemmas.{items_end, items_pass, no_items_yet, one_item_more}
use Rattle.raft_tail.proofs.items.skip_items.Goals as goal

pub loop-init : goal.loop-init
loop-init c = no_items_yet c.args.bytes.now

pub returns-in_default-clause-ok : goal.returns-in_default-clause-ok
returns-in_default-clause-ok c = items_end c.args.count c.loop.invariant c.loop-test.true (rw c.in_default.is at c.in_ok-end.ensures.ok)

pub loop-preserved : goal.loop-preserved
loop-preserved c = one_item_more c.loop.invariant (rw c.in-Some.is at c.in_ok-end.ensures.ok)

pub returns-clause-ok : goal.returns-clause-ok
returns-clause-ok c = items_pass c.loop.invariant (omega (arith, c.loop-test.false, c.loop.auto.counter-end))
