use Rattle.raft_engine.proofs.FoundContents.{contents_stay}
use Rattle.raft_engine.proofs.restarts.found_contents_stay.Goals as goal

pub returns : goal.returns
returns c = contents_stay c.found_files_are_stored.ensures.ready c.told_contents_last.ensures.bytes
