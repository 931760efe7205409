use Rattle.raft_engine_laws.proofs.KeptRewrites.{moved_kept}
use Rattle.raft_engine_laws.proofs.moving.moved_records_are_kept.Goals as goal

pub returns : goal.returns
returns c = moved_kept
