use Rattle.raft_contexts.proofs.Common.{arith}
use Rattle.raft_contexts.proofs.CountLemmas.{len_all}
use Rattle.raft_contexts.proofs.marked_tables.MarkedTables.marks_count.Goals as goal

pub returns-clause-value : goal.returns-clause-value
returns-clause-value c = omega (arith, len_all c.args.self.now.accessor.tables c.args.self.now.marks, c.tables_count.ensures.value, c.count_without_table.ensures)
