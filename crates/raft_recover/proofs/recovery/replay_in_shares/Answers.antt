use Rattle.std.proofs.Common.{arith}
use Rattle.raft_recover.proofs.recovery.replay_in_shares.Goals as goal

pub replay_given_shares-requires-clause-accepted : goal.replay_given_shares-requires-clause-accepted
replay_given_shares-requires-clause-accepted g c =
    let few = c.in_ok-shares.ensures.few in
    let most = c.requires.1 in
    rw (c.as_slice.ensures.value)
    (λ _ _. (c.requires.0, c.requires.1, omega arith, (c.in_ok-shares.ensures.of_queue c.args.queue).0 c.requires.3))
