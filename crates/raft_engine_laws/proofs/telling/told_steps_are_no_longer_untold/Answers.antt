use Rattle.raft_engine_laws.proofs.KeptRewrites.{telling_kept, told_all_kept}
use Rattle.raft_engine_laws.proofs.telling.told_steps_are_no_longer_untold.Goals as goal

pub returns-clause-all : goal.returns-clause-all
returns-clause-all c = told_all_kept

pub returns-clause-some : goal.returns-clause-some
returns-clause-some c = telling_kept
