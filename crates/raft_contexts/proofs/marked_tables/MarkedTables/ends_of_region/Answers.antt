use Rattle.raft_contexts.proofs.Common.{sym, ap, ◌∙◌, option_map}
use Rattle.raft_contexts.proofs.TakenLemmas.{no_ends}
use Rattle.raft_contexts.proofs.marked_tables.MarkedTables.ends_of_region.Goals as goal

pub returns-in-None-clause-ends : goal.returns-in-None-clause-ends
returns-in-None-clause-ends c = no_ends c.args.id _ (ap (option_map (λ t. t.now)) (sym c.in-None.is) ∙ c.get.ensures.value)
