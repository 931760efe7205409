use Rattle.raft_engine_laws.proofs.ToldContexts.{found_entries, taken_is_away, told_by_marks, told_each}
use Rattle.raft_engine_laws.proofs.openings.taken_away_is_told.Goals as goal

pub returns-clause-tells : goal.returns-clause-tells
returns-clause-tells c = told_by_marks

pub returns-clause-says : goal.returns-clause-says
returns-clause-says c = told_each

pub returns-clause-away : goal.returns-clause-away
returns-clause-away c = taken_is_away

pub returns-clause-entries : goal.returns-clause-entries
returns-clause-entries c = found_entries
