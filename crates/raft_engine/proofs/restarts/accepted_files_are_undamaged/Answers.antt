use Rattle.raft_engine.proofs.ModeLemmas.{opened_found}
use Rattle.raft_engine.proofs.restarts.accepted_files_are_undamaged.Goals as goal

pub returns : goal.returns
returns c = opened_found
