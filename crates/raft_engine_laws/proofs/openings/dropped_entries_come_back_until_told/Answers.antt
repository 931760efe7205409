use Rattle.raft_engine_laws.proofs.BackLemmas.{comes_back}
use Rattle.raft_engine_laws.proofs.openings.dropped_entries_come_back_until_told.Goals as goal

pub returns : goal.returns
returns c = comes_back
