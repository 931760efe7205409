use Rattle.raft_engine.proofs.LifeLemmas.{entries_found}
use Rattle.raft_engine.proofs.lives.written_entries_are_found.Goals as goal

pub returns : goal.returns
returns c = entries_found c.found_entries_stay.ensures
