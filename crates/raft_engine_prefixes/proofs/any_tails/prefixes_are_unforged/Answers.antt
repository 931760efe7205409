use Rattle.raft_engine_prefixes.proofs.UnforgedLemmas.{prefixes_unforged}
use Rattle.raft_engine_prefixes.proofs.any_tails.prefixes_are_unforged.Goals as goal

pub returns : goal.returns
returns c = prefixes_unforged
