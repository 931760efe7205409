use Rattle.raft_engine_laws.proofs.RowJoins.{joined_summary, whole_stands}
use Rattle.raft_engine_laws.proofs.openings.joined_summaries_are_summaries_of_both.Goals as goal

pub returns-clause-joined : goal.returns-clause-joined
returns-clause-joined c = joined_summary

pub returns-clause-whole : goal.returns-clause-whole
returns-clause-whole c = whole_stands
