use Rattle.raft_contexts.proofs.Common.{◌∙◌}
use Rattle.raft_contexts.proofs.CountLemmas.{deleted_kept}
use Rattle.raft_contexts.proofs.marked_tables.MarkedTables.deleted_keys.Goals as goal

pub returns : goal.returns
returns c = c.deleted_keys.ensures ∙ deleted_kept c.args.self.now.accessor.tables c.args.self.now.marks
