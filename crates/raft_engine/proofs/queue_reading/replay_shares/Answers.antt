use Rattle.raft_engine.proofs.Common.{arith}
use Rattle.raft_engine.proofs.ReadQueueLemmas.{same_replayed}
use Rattle.raft_engine.proofs.queue_reading.replay_shares.Goals as goal

pub replay_accepted-requires-clause-accepted : goal.replay_accepted-requires-clause-accepted
replay_accepted-requires-clause-accepted g c =
    let few = c.in_ok-shares.ensures.few in
    let most = c.requires.accepted.1 in
    rw (c.as_slice.ensures.value)
    (λ _ _. (c.requires.accepted.0, c.requires.accepted.1, omega arith, (c.in_ok-shares.ensures.of_queue c.args.queue).0 c.requires.accepted.3))

pub returns : goal.returns
returns g c =
    same_replayed g.M.ReplayMachine.stands_for g.M.ReplayMachine.stands_exactly c.args.segments.now _ _ c.as_slice.ensures.value c.in_ok-shares.ensures.same c.replay_accepted.result c.replay_accepted.ensures.ok
