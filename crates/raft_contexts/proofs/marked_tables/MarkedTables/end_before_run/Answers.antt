use Rattle.raft_contexts.proofs.Common.{ℕ, ap}
use Rattle.std.specs.FinMap as finite
use Rattle.raft_contexts.proofs.TakenLemmas.{end_met}
use Rattle.raft_contexts.proofs.marked_tables.MarkedTables.end_before_run.Goals as goal

pub returns-in-Run : goal.returns-in-Run
returns-in-Run c = λ q m. rw c.in-Run.is (end_met q c.args.id m (finite.get c.args.self.now.accessor.tables c.args.id) _ _ (ap (λ (p : ℕ × ℕ). p.1) c.ends_of_region.ensures.ends))
