use Rattle.raft_listing.proofs.Common.{arith, ap, length}
use Rattle.raft_listing.proofs.WalkLemmas.{ended, one_more, stopped}
use Rattle.raft_listing.proofs.walk.walk_part.Goals as goal

pub loop-at-preserved : goal.loop-at-preserved
loop-at-preserved g c =
    one_more g.V.PartVisitor.visits c.args.part.now c.args.visitor.now c.loop-at.visitor c.visit_byte.new.visitor c.loop-at.at c.in-Some.next c.loop-at.invariant
    (omega (arith, c.loop-at-test.true, ap length c.bytes.ensures)) (rw c.in-Some.is at c.in_ok-behind.ensures.ok) (rw c.in-Some.is at c.in_ok-behind.ensures.inside)

pub returns-in_default-clause-ok : goal.returns-in_default-clause-ok
returns-in_default-clause-ok g c =
    stopped g.V.PartVisitor.visits c.args.part.now c.args.visitor.now c.loop-at.visitor c.visit_byte.new.visitor c.loop-at.at c.loop-at.invariant
    (omega (arith, c.loop-at-test.true, ap length c.bytes.ensures)) (rw c.in_default.is at c.in_ok-behind.ensures.ok)

pub returns-clause-ok : goal.returns-clause-ok
returns-clause-ok g c =
    ended g.V.PartVisitor.visits c.args.part.now c.args.visitor.now c.loop-at.visitor c.loop-at.at c.loop-at.invariant
    (let inside = c.loop-at.invariant.inside in omega (arith, c.loop-at-test.false, ap length c.bytes.ensures, inside))
