use Rattle.raft_table.proofs.Facts.{ap, ◌∙◌, Mark, joined_at, run_added}
use Rattle.raft_table.proofs.memtable.mark.Mark.add_run.Goals as goal

pub returns : goal.returns
returns c =
    c.join_bounds.ensures ∙ ap (λ (n : Mark). record (joined_at c.args.queue c.args.end c.args.self.now n) { deleted = c.args.self.now.deleted }) c.of_run_from.ensures
    ∙ run_added c.args.queue c.args.end c.args.start c.args.self.now
