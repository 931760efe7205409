use Rattle.raft_engine_prefixes.proofs.EndLemmas.{left_within}
use Rattle.raft_engine_prefixes.proofs.entry_places.left_batches_end_within.Goals as goal

pub returns : goal.returns
returns c = left_within
