use Rattle.raft_engine_laws.proofs.QuietLemmas.{same_kept}
use Rattle.raft_engine_laws.proofs.ToldItems.{same_both}
use Rattle.raft_engine_laws.proofs.telling.what_says_the_same_is_as_untold.Goals as goal

pub returns-clause-kept : goal.returns-clause-kept
returns-clause-kept c = same_kept

pub returns-clause-joined : goal.returns-clause-joined
returns-clause-joined c = same_both
