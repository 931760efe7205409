use Rattle.raft_history.specs.Batches.{batches}
use Rattle.raft_history.proofs.ContextLaws.{exact_reading}
use Rattle.raft_history.proofs.contexts.exact_contexts_are_one_reading.Goals as goal

pub returns : goal.returns
returns c = λ q c h ex u. record { tables_read = exact_reading q c.regions (batches h) (ex.regions q u); regions_cleaned = (ex.stands.stands q u).cleaned }
