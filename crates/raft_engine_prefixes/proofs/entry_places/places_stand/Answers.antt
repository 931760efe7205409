use Rattle.raft_engine_prefixes.proofs.EntryPlaceLemmas.{places}
use Rattle.raft_engine_prefixes.proofs.entry_places.places_stand.Goals as goal

pub returns : goal.returns
returns c = places
