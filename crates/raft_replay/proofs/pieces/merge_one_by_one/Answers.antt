use Rattle.raft_replay.proofs.Common.{or_passed, ◌≡◌, [], reverse, arith, nil_from_length, cost, one_fewer}
use Rattle.raft_replay.proofs.WalkLemmas.{last_first, all_begun, reached_all}
use Rattle.raft_replay.proofs.pieces.merge_one_by_one.Goals as goal

pub loop-next-init : goal.loop-next-init
loop-next-init g c =
    let held = c.args.pieces.ok.0 in
    c.in_ok-merged.ensures.ok c.args.pieces.items
    (all_begun g.M.ReplayMachine.stands_for g.M.ReplayMachine.stands_exactly c.args.pieces.items c.reverse.new.self.items c.args.plan.now c.new-waiting.result.items
    (omega (arith, held, c.requires)) c.reverse.ensures.items c.new-waiting.ensures.items)

pub merge_or_descend-requires : goal.merge_or_descend-requires
merge_or_descend-requires g c =
    let reached = rw (last_first c.loop-next.waiting.items c.pop.new.self.items c.in-Some.next c.in-Some.ensures.items) at c.loop-next.invariant in
    (c.type_bounds.send-M, (c.args.pieces.items, reached))

pub loop-next-smaller : goal.loop-next-smaller
loop-next-smaller g c =
    let sum = one_fewer (cost {M = g.row.M.Denot}) c.loop-next.waiting.items c.pop.new.self.items c.in-Some.next c.in-Some.ensures.items in
    omega (arith, c.in_ok-merged-2.ensures.cost, sum)

pub loop-next-preserved : goal.loop-next-preserved
loop-next-preserved g c =
    c.in_ok-merged-2.ensures.ok c.args.pieces.items
    (rw (last_first c.loop-next.waiting.items c.pop.new.self.items c.in-Some.next c.in-Some.ensures.items) at c.loop-next.invariant)

pub returns-in_err-merged-2 : goal.returns-in_err-merged-2
returns-in_err-merged-2 g c =
    or_passed _ _ _ c.from_residual-in_err-merged-2.ensures.1
    (λ not_memory. c.in_err-merged-2.ensures.refused not_memory c.args.pieces.items
    (rw (last_first c.loop-next.waiting.items c.pop.new.self.items c.in-Some.next c.in-Some.ensures.items) at c.loop-next.invariant))

pub returns : goal.returns
returns g c =
    let none : c.loop-next.waiting.items ≡ [] =
    let held = c.loop-next.waiting.ok.0 in let empty = c.in_default.ensures.cases.0 in nil_from_length c.loop-next.waiting.items (omega (arith, held, empty)) in
    reached_all g.M.ReplayMachine.stands_for g.M.ReplayMachine.stands_exactly c.args.pieces.items (reverse c.loop-next.pieces.items) c.loop-next.merged
    (rw none at c.loop-next.invariant)
