use Rattle.raft_engine.proofs.EntryLemmas.{entries_stay}
use Rattle.raft_engine.proofs.restarts.found_entries_stay.Goals as goal

pub returns : goal.returns
returns c = entries_stay c.found_contents_stay.ensures
