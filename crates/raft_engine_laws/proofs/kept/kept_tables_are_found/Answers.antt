use Rattle.raft_engine_laws.proofs.FoundTables.{kept_found}
use Rattle.raft_engine_laws.proofs.kept.kept_tables_are_found.Goals as goal

pub returns : goal.returns
returns c = kept_found
