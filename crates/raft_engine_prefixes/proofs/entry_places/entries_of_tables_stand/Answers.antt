use Rattle.raft_engine_prefixes.proofs.TableEntryLemmas.{stand}
use Rattle.raft_engine_prefixes.proofs.entry_places.entries_of_tables_stand.Goals as goal

pub returns : goal.returns
returns c = stand
