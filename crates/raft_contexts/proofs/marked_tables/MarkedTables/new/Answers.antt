use Rattle.raft_contexts.proofs.ImpliedMarkLemmas.{regions_none}
use Rattle.raft_contexts.proofs.marked_tables.MarkedTables.new.Goals as goal

pub returns-clause-regions : goal.returns-clause-regions
returns-clause-regions c = regions_none _ _ c.in_ok-new.ensures.tables c.new-2.ensures
