use Rattle.raft_engine.proofs.SyncedLemmas.{synced_last}
use Rattle.raft_engine.proofs.restarts.synced_batches_last.Goals as goal

pub returns : goal.returns
returns c =
    let t = c.torn_tails_are_found.ensures in
    synced_last t.whole t.one_reading
