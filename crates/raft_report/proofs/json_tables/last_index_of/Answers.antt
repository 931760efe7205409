use Rattle.raft_report.proofs.TableLemmas.{last_is}
use Rattle.raft_report.proofs.json_tables.last_index_of.Goals as goal

pub returns : goal.returns
returns c = last_is c.args.table.now.entries c.last_index.result c.last_index.ensures
