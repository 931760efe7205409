use Rattle.raft_engine.proofs.OfVersionLemmas.{prefix_not_other, left_not_other, stays}
use Rattle.raft_engine.proofs.of_version.no_crash_leaves_another_version.Goals as goal

pub returns-clause-front : goal.returns-clause-front
returns-clause-front c = prefix_not_other

pub returns-clause-stays : goal.returns-clause-stays
returns-clause-stays c = stays

pub returns-clause-left : goal.returns-clause-left
returns-clause-left c = left_not_other
