use Rattle.raft_contexts.proofs.AppendedLemmas.{items_appended}
use Rattle.raft_contexts.proofs.ReadingLemmas.{items_listed}
use Rattle.raft_contexts.proofs.reading.appended_items_are_read_as_steps.Goals as goal

pub returns-clause-tables : goal.returns-clause-tables
returns-clause-tables c = items_appended

pub returns-clause-cleaned : goal.returns-clause-cleaned
returns-clause-cleaned c = items_listed
