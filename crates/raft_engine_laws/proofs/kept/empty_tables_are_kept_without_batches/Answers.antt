use Rattle.raft_engine_laws.proofs.NoFiles.{none_kept}
use Rattle.raft_engine_laws.proofs.kept.empty_tables_are_kept_without_batches.Goals as goal

pub returns : goal.returns
returns c = none_kept
