use Rattle.raft_report.proofs.TableLemmas.{first_is}
use Rattle.raft_report.proofs.json_tables.first_index_of.Goals as goal

pub returns : goal.returns
returns c = first_is c.args.table.now.entries c.first_index.result c.first_index.ensures
