use Rattle.raft_engine_laws.proofs.QuietLemmas.{fewer_kept, quiet_run}
use Rattle.raft_engine_laws.proofs.telling.steps_that_take_nothing_away_need_no_telling.Goals as goal

pub returns-clause-kept : goal.returns-clause-kept
returns-clause-kept c = fewer_kept

pub returns-clause-run : goal.returns-clause-run
returns-clause-run c = quiet_run
