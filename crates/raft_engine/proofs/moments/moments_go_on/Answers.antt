use Rattle.raft_engine.proofs.MomentLemmas.{calls_go_on, moments_go_on}
use Rattle.raft_engine.proofs.moments.moments_go_on.Goals as goal

pub returns-clause-moments : goal.returns-clause-moments
returns-clause-moments c = moments_go_on

pub returns-clause-calls : goal.returns-clause-calls
returns-clause-calls c = calls_go_on
