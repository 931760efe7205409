use Rattle.raft_plain.proofs.Common.{ap, ◌∙◌, length, arith}
use Rattle.raft_plain.proofs.LiveLemmas.{in_queue, stored-count}
use Rattle.raft_plain.proofs.live.count_keys.Goals as goal

pub returns : goal.returns
returns c =
    let q = c.args.queue in
    let all = c.into_iter-stored-iterator.ensures.into_iter_gives ∙ c.values-stored-items.ensures.rest in
    omega (arith, c.loop-stored.invariant.counted, ap (λ ss. length (in_queue q ss)) c.in-None.ensures.steps.0, ap (λ ss. length (in_queue q ss)) all, stored-count q c.args.keys.now.entries c.values-stored-items.ensures.ordered)
