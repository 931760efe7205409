use Rattle.std.proofs.Common.{Option, ap, ◌∙◌}
use Rattle.raft_table.specs.Steps.{table_of}
use Rattle.raft_table.specs.Table.{Table}
use Rattle.raft_contexts.specs.TakenAway.{first_of}
use Rattle.raft_contexts.proofs.TakenAwayLemmas.{first_index_is}
use Rattle.raft_contexts.proofs.marked_tables.MarkedTables.first_appended_index.Goals as goal

pub returns-in-Some : goal.returns-in-Some
returns-in-Some c =
    first_index_is c.in-Some.own.now.entries c.first_index.result c.first_index.ensures ∙ ap (λ (o : Option Table). first_of (table_of c.args.region o).entries) c.in-Some.ensures.value

pub returns-in-None : goal.returns-in-None
returns-in-None c = ap (λ (o : Option Table). first_of (table_of c.args.region o).entries) c.in-None.ensures.value
