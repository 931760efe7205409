use Rattle.raft_engine_laws.proofs.AlikeTables.{alike_taken}
use Rattle.raft_engine_laws.proofs.RecordLemmas.{empty_have, taken_have}
use Rattle.raft_engine_laws.proofs.records.records_come_from_written_batches.Goals as goal

pub returns-clause-none : goal.returns-clause-none
returns-clause-none c = empty_have

pub returns-clause-more : goal.returns-clause-more
returns-clause-more c = taken_have

pub returns-clause-alike : goal.returns-clause-alike
returns-clause-alike c = alike_taken
