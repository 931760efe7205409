use Rattle.raft_engine.proofs.LifeLemmas.{stays_synced}
use Rattle.raft_engine.proofs.lives.synced_batches_stay_synced.Goals as goal

pub returns : goal.returns
returns c = stays_synced
