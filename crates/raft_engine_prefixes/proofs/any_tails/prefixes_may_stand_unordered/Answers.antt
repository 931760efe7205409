use Rattle.raft_engine_prefixes.proofs.AnyTailLemmas.{may_stand}
use Rattle.raft_engine_prefixes.proofs.any_tails.prefixes_may_stand_unordered.Goals as goal

pub returns : goal.returns
returns c = may_stand
