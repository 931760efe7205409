use Rattle.raft_engine_laws.proofs.ToldItems.{told_same, told_away, away_removals, away_in_file, away_status, away_unmarked}
use Rattle.raft_engine_laws.proofs.telling.told_items_take_away_the_same.Goals as goal

pub returns-clause-same : goal.returns-clause-same
returns-clause-same c = told_same

pub returns-clause-away : goal.returns-clause-away
returns-clause-away c = told_away

pub returns-clause-removals : goal.returns-clause-removals
returns-clause-removals c = away_removals

pub returns-clause-in_file : goal.returns-clause-in_file
returns-clause-in_file c = away_in_file

pub returns-clause-status : goal.returns-clause-status
returns-clause-status c = away_status

pub returns-clause-no_marker : goal.returns-clause-no_marker
returns-clause-no_marker c = away_unmarked
