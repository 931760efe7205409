use Rattle.raft_engine.proofs.ModeLemmas.{accept_more}
use Rattle.raft_engine.proofs.restarts.modes_accept_more.Goals as goal

pub returns : goal.returns
returns c = accept_more
