use Rattle.raft_contexts.proofs.Common.{◌∙◌, ap, step_shown, mark_in, refl, mark_of, regions_in}
use Rattle.std.specs.FinMap as finite
use Rattle.raft_contexts.proofs.ImpliedMarkLemmas.{joined_all}
use Rattle.raft_contexts.proofs.ReadTakenLemmas.{by_put_step}
use Rattle.raft_contexts.proofs.TakenLemmas.{by_kept}
use Rattle.raft_contexts.proofs.marked_tables.MarkedTables.apply_step.Goals as goal

pub returns : goal.returns
returns c =
    let old = (regions_in c.args.self.now).marks in
    let s = step_shown c.args.step in
    by_kept c.args.queue c.args.id s c.args.self.now (record { accessor = c.take_step-2.new.self; marks = c.add_step.new.self }) c.take_step-2.result c.requires c.take_step-2.ensures.exact_counts
    (joined_all c.args.queue c.args.id c.args.self.now.accessor.tables c.take_step-2.new.self.tables c.args.self.now.marks c.keep_implied_mark.new.self c.add_step.new.self c.end_before_run-end.result (mark_of s) (mark_of s)
    c.take_step-2.ensures.taken.one c.keep_implied_mark.ensures.same c.in_ok-keep_implied_mark.ensures.kept c.in_ok-add_step.ensures.ok refl
    ∙ ap (finite.insert old c.args.id) (c.end_before_run-end.ensures c.args.queue (mark_in old c.args.id))) c.take_step-2.ensures.taken

pub returns-then-is_put : goal.returns-then-is_put
returns-then-is_put c = by_put_step c.args.queue c.args.id (step_shown c.args.step) c.args.self.now c.take_step.new.self c.take_step.result c.if-is_put.ensures c.requires c.take_step.ensures.exact_counts c.take_step.ensures.taken
