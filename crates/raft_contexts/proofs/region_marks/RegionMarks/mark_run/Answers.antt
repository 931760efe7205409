use Rattle.raft_contexts.proofs.Common.{sym, ◌∙◌, arith}
use Rattle.raft_contexts.proofs.ImpliedMarkLemmas.{run_joined, run_kept}
use Rattle.raft_contexts.proofs.region_marks.RegionMarks.mark_run.Goals as goal

pub returns-then-has_mark : goal.returns-then-has_mark
returns-then-has_mark c = run_joined c.args.queue c.args.id c.args.start c.args.end c.args.first c.args.self.now c.add_run.new.self c.add_run.result (sym c.has_mark.ensures ∙ c.if-has_mark.true) c.add_run.ensures.ok

pub returns : goal.returns
returns c = run_kept c.args.queue c.args.id c.args.start c.args.end c.args.first c.args.self.now c.keep_run_mark.new.self c.add_run-2.new.self c.add_run-2.result (sym c.has_mark.ensures ∙ c.if-has_mark.false)
    (omega (arith, c.if-end-eq0.false)) c.in_ok-keep_run_mark.ensures.ok c.add_run-2.ensures.ok
