use Rattle.raft_shared.proofs.Common.{ap, ◌∙◌, table_of}
use Rattle.raft_shared.proofs.shared_accessor.ask_for_change.Goals as goal

pub returns-in-Some-clause-gave : goal.returns-in-Some-clause-gave
returns-in-Some-clause-gave g c = (c.in-Some.table, c.f.ensures, ap (table_of c.args.id) c.in-Some.ensures.value)

pub returns-in-None-clause-gave : goal.returns-in-None-clause-gave
returns-in-None-clause-gave g c = (_, c.f-in-None-2.ensures, c.new.ensures.empty ∙ ap (table_of c.args.id) c.in-None.ensures.value)
