use Rattle.raft_engine_prefixes.proofs.AnyRestLemmas.{begins_left}
use Rattle.raft_engine_prefixes.proofs.any_tails.synced_batches_are_left_first.Goals as goal

pub returns : goal.returns
returns c = begins_left
