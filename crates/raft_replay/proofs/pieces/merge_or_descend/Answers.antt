use Rattle.raft_replay.proofs.Common.{on_passed, on_ok_weaker, ◌≡◌, ◌*◌, List, ◌∷◌, reverse, sym, subst, arith, ap, Waiting, leaves, ArePlansNext, cost, one_fewer}
use Rattle.raft_replay.specs.declared.pieces.Waiting.TheVariants.{Merged}
use Rattle.raft_replay.proofs.WalkLemmas.{last_first, waits, enough, joined, unjoined}
use Rattle.raft_replay.proofs.pieces.merge_or_descend.Goals as goal

pub take_oldest_piece-requires : goal.take_oldest_piece-requires
take_oldest_piece-requires g c =
    let held = c.args.pieces.now.ok.0 in
    let few = enough g.M.ReplayMachine.stands_for g.M.ReplayMachine.stands_exactly c.requires.0 c.in-Unmerged.plan.now (Merged c.args.merged ∷ reverse c.args.waiting.now.items) c.args.pieces.now.items
    (waits g.M.ReplayMachine.stands_for g.M.ReplayMachine.stands_exactly c.requires.0 c.in-Unmerged.plan (reverse c.args.waiting.now.items) (reverse c.args.pieces.now.items) c.args.merged
    (rw c.in-Unmerged.is at c.requires.1)) in
    (c.type_bounds.send-M, omega (arith, held, few))

pub returns-in_ok-merge-in-Merged-clause-ok : goal.returns-in_ok-merge-in-Merged-clause-ok
returns-in_ok-merge-in-Merged-clause-ok g c = λ all reached.
    joined g.M.ReplayMachine.stands_for g.M.ReplayMachine.stands_exactly all c.in-Merged.older c.args.merged (reverse c.args.waiting.now.items) (reverse c.args.pieces.now.items)
    (rw c.in-Merged.is at reached)
    c.merge.new.self c.in_ok-merge-in-Merged.ensures.stands c.in_ok-merge-in-Merged.ensures.exact

pub returns-in_err-merge-in-Merged-clause-refused : goal.returns-in_err-merge-in-Merged-clause-refused
returns-in_err-merge-in-Merged-clause-refused g c =
    on_passed _ _ c.from_residual.ensures.1
    (λ not_memory all reached.
    unjoined g.M.ReplayMachine.stands_for g.M.ReplayMachine.stands_exactly all c.in-Merged.older c.args.merged (reverse c.args.waiting.now.items) (reverse c.args.pieces.now.items)
    (rw c.in-Merged.is at reached)
    c.args.queue (c.in_err-merge-in-Merged.ensures.refused not_memory))

pub returns-in_ok-push-in-Unmerged-clause-ok : goal.returns-in_ok-push-in-Unmerged-clause-ok
returns-in_ok-push-in-Unmerged-clause-ok g c = λ all reached.
    c.take_oldest_piece.ensures.ok all
    (subst (λ (l : List (Waiting g.row.M.Denot)). ArePlansNext g.M.ReplayMachine.stands_for g.M.ReplayMachine.stands_exactly all c.in-Unmerged.plan.now l (reverse c.args.pieces.now.items))
    (sym (last_first c.push.new.self.items c.args.waiting.now.items (Merged c.args.merged) c.in_ok-push-in-Unmerged.ensures.items))
    (waits g.M.ReplayMachine.stands_for g.M.ReplayMachine.stands_exactly all c.in-Unmerged.plan (reverse c.args.waiting.now.items) (reverse c.args.pieces.now.items) c.args.merged
    (rw c.in-Unmerged.is at reached)))

pub returns-in_ok-push-in-Unmerged-clause-cost : goal.returns-in_ok-push-in-Unmerged-clause-cost
returns-in_ok-push-in-Unmerged-clause-cost g c =
    let sum = one_fewer (cost {M = g.row.M.Denot}) c.push.new.self.items c.args.waiting.now.items (Merged c.args.merged) c.in_ok-push-in-Unmerged.ensures.items in
    let next : cost c.args.next ≡ 2 * leaves c.in-Unmerged.plan.now = ap (cost {M = g.row.M.Denot}) c.in-Unmerged.is in
    on_ok_weaker c.take_oldest_piece.result (λ spent. omega (arith, spent, sum, next)) c.take_oldest_piece.ensures.cost
