use Rattle.raft_engine.proofs.OwnFileLemmas.{own_files_nothing}
use Rattle.raft_engine.proofs.lives.own_files_are_told_nothing.Goals as goal

pub returns : goal.returns
returns c = own_files_nothing c.found_files_are_stored.ensures.ready
