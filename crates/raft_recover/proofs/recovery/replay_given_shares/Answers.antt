use Rattle.raft_recover.proofs.RecoveryLemmas.{same_replayed}
use Rattle.raft_recover.proofs.recovery.replay_given_shares.Goals as goal

pub returns-in-Ok : goal.returns-in-Ok
returns-in-Ok g c = same_replayed c.args.segments.now c.args.shares.now c.requires.same c.in-Ok.context c.in-Ok.ensures.ok
