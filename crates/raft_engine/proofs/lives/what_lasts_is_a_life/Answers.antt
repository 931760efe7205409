use Rattle.raft_engine.proofs.LifeLemmas.{what_lasts}
use Rattle.raft_engine.proofs.lives.what_lasts_is_a_life.Goals as goal

pub returns : goal.returns
returns c = what_lasts
