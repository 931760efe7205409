use Rattle.raft_engine_laws.proofs.Reopened.{reopened}
use Rattle.raft_engine_laws.proofs.restarts.found_tables_are_kept.Goals as goal

pub returns : goal.returns
returns c = λ content append rewrite untold tables found cleaned h both. reopened content append rewrite untold tables found cleaned h both content
