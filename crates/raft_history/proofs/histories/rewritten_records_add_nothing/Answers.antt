use Rattle.std.proofs.Common.{sym, ◌∙◌}
use Rattle.raft_history.proofs.RewrittenHistories.{both_same}
use Rattle.raft_history.proofs.histories.rewritten_records_add_nothing.Goals as goal

pub returns-clause-records : goal.returns-clause-records
returns-clause-records c = λ rewrite append tables appended cleaned own_cleaned sound from both own. both_same append sound rewrite tables appended cleaned own_cleaned from both own

pub returns-clause-cleaned : goal.returns-clause-cleaned
returns-clause-cleaned c = λ rewrite append tables appended cleaned own_cleaned both own. both.append_read.regions_cleaned ∙ sym own.regions_cleaned
