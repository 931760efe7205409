use Rattle.raft_contexts.proofs.MovedTableLemmas.{items_follow, items_stay, items_run, all_moved_self, none_run, reading_runs}
use Rattle.raft_contexts.proofs.reading.rewriting_changes_places_alone.Goals as goal

pub returns-clause-appended : goal.returns-clause-appended
returns-clause-appended c = items_follow

pub returns-clause-rewritten : goal.returns-clause-rewritten
returns-clause-rewritten c = items_stay

pub returns-clause-same : goal.returns-clause-same
returns-clause-same c = all_moved_self

pub returns-clause-runs : goal.returns-clause-runs
returns-clause-runs c = items_run

pub returns-clause-no_tables : goal.returns-clause-no_tables
returns-clause-no_tables c = none_run

pub returns-clause-read : goal.returns-clause-read
returns-clause-read c = reading_runs
