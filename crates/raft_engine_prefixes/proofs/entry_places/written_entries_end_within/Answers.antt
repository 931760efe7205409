use Rattle.raft_engine_prefixes.proofs.EntryPlaceLemmas.{written_within}
use Rattle.raft_engine_prefixes.proofs.entry_places.written_entries_end_within.Goals as goal

pub returns : goal.returns
returns c = written_within
