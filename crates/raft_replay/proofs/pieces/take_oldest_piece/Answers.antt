use Rattle.raft_replay.proofs.Common.{◌≡◌, ◌+◌, List, reverse, sym, ap, subst, arith, Plan, Waiting, leaves, ArePlansNext, cost, one_fewer}
use Rattle.raft_replay.specs.declared.pieces.Waiting.TheVariants.{Unmerged}
use Rattle.raft_replay.proofs.WalkLemmas.{last_first, turned, taken}
use Rattle.raft_replay.proofs.pieces.take_oldest_piece.Goals as goal

pub loop-plan-preserved : goal.loop-plan-preserved
loop-plan-preserved g c =
    let whole : leaves c.loop-plan.plan.now ≡ leaves c.in-Join.left.value + leaves c.in-Join.right.value = ap leaves c.in-Join.is in
    let first : leaves c.deref-plan.result.now ≡ leaves c.in-Join.left.value = ap leaves c.deref-plan.ensures in
    let second : leaves c.deref.result.now ≡ leaves c.in-Join.right.value = ap leaves c.deref.ensures in
    let before = c.loop-plan.invariant in
    let items = c.in_ok-push.ensures.items in
    record {
      few = omega (arith, before.few, whole, first);
      next = λ all begun.
          subst (λ (l : List (Waiting g.row.M.Denot)). ArePlansNext g.M.ReplayMachine.stands_for g.M.ReplayMachine.stands_exactly all c.deref-plan.result.now l (reverse c.args.pieces.now.items))
          (sym (last_first c.push.new.self.items c.loop-plan.waiting.items (Unmerged c.deref.result) items))
          (turned g.M.ReplayMachine.stands_for g.M.ReplayMachine.stands_exactly all c.loop-plan.plan.now c.deref-plan.result.now c.deref.result
          (reverse c.loop-plan.waiting.items) (reverse c.args.pieces.now.items) (omega (arith, whole, first, second)) (before.next all begun));
      spent =
          let sum = one_fewer (cost {M = g.row.M.Denot}) c.push.new.self.items c.loop-plan.waiting.items (Unmerged c.deref.result) items in
          omega (arith, before.spent, whole, first, second, sum);
    }

pub returns-clause-ok : goal.returns-clause-ok
returns-clause-ok g c = λ all begun.
    taken g.M.ReplayMachine.stands_for g.M.ReplayMachine.stands_exactly all (reverse c.loop-plan.waiting.items) (reverse c.args.pieces.now.items)
    (reverse c.pop.new.self.items) c.in-Some.piece (last_first c.args.pieces.now.items c.pop.new.self.items c.in-Some.piece c.in-Some.ensures.items)
    (subst (λ (p : Plan). ArePlansNext g.M.ReplayMachine.stands_for g.M.ReplayMachine.stands_exactly all p (reverse c.loop-plan.waiting.items) (reverse c.args.pieces.now.items))
    c.in_default.is (c.loop-plan.invariant.next all begun))
