use Rattle.raft_engine_laws.proofs.RecordLemmas.{found_have, moved_have}
use Rattle.raft_engine_laws.proofs.records.records_stay_when_places_change.Goals as goal

pub returns-clause-found : goal.returns-clause-found
returns-clause-found c = found_have

pub returns-clause-moved : goal.returns-clause-moved
returns-clause-moved c = moved_have
