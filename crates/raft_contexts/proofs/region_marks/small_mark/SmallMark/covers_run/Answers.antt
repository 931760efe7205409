use Rattle.raft_contexts.proofs.Common.{sym, ap, ◌∙◌, Mark, run_covered, form_shown}
use Rattle.raft_contexts.proofs.region_marks.small_mark.SmallMark.covers_run.Goals as goal

pub returns-in-Run : goal.returns-in-Run
returns-in-Run c = λ queue.
    let is = sym c.self.view_is ∙ ap form_shown c.in-Run.is in
    run_covered queue c.args.end c.args.start c.in-Run.first c.in-Run.first c.args.self.now (ap (λ (m : Mark). m.reach) is) (ap (λ (m : Mark). m.cut) is) c.if-first-start.true c.if-start-end.true c.if-end-gt0.true
