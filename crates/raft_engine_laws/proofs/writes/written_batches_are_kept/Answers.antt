use Rattle.raft_engine_laws.proofs.KeptWrites.{written_kept}
use Rattle.raft_engine_laws.proofs.writes.written_batches_are_kept.Goals as goal

pub returns : goal.returns
returns c = written_kept
