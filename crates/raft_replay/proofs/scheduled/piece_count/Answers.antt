use Rattle.raft_replay.proofs.Common.{◌≡◌, ℕ, ◌+◌, cond, sym, ap, ◌∙◌, arith, switches, count_below}
use Rattle.raft_replay.proofs.MachineOrderLemmas.{count_more, pieces_some, one_at_most, one_more_is}
use Rattle.raft_replay.proofs.scheduled.piece_count.Goals as goal

pub loop-n-preserved : goal.loop-n-preserved
loop-n-preserved c =
    let more = count_more (switches c.args.draws.now) c.loop-n.n in
    let most = one_at_most (switches c.args.draws.now c.loop-n.n) in
    let added : c.from-pieces.result ≡ cond (switches c.args.draws.now c.loop-n.n) 1 0 = one_more_is c.from-pieces.ensures c.is_worker_change.ensures in
    let counted = c.loop-n.invariant.counted in
    let few = c.loop-n.invariant.few in
    record { counted = omega arith; few = omega arith }

pub returns : goal.returns
returns c =
    let end : c.loop-n.n ≡ c.args.segments = omega arith in
    c.loop-n.invariant.counted ∙ ap (λ (n : ℕ). count_below (switches c.args.draws.now) n + 1) end
    ∙ sym (pieces_some c.args.segments c.args.draws.now (omega arith))
