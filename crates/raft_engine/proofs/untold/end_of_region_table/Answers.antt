use Rattle.raft_engine.proofs.Common.{Option, ap, end_of, table_of, Table}
use Rattle.raft_engine.proofs.untold.end_of_region_table.Goals as goal

pub returns-in-None : goal.returns-in-None
unfolding end_of
returns-in-None c = ap (λ (o : Option Table). end_of (table_of c.args.region o).entries) c.in-None.ensures.value
