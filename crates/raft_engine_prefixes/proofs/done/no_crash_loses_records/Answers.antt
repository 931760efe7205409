use Rattle.raft_engine_prefixes.proofs.RecordLemmas.{records_held, safe_records_held}
use Rattle.raft_engine_prefixes.proofs.done.no_crash_loses_records.Goals as goal

pub returns-clause-safe : goal.returns-clause-safe
returns-clause-safe c = safe_records_held

pub returns-clause-nothing_lost : goal.returns-clause-nothing_lost
returns-clause-nothing_lost c = records_held
