use Rattle.std.proofs.Common.{Some, None, ap, sym, ◌∙◌}
use Rattle.std.proofs.lemmas.Result.{on_ok_weaker}
use Rattle.std.specs.FinMap as finite
use Rattle.raft_contexts.proofs.TakenAwayLemmas.{mark_of_table, under_mark}
use Rattle.raft_contexts.proofs.marked_tables.MarkedTables.add_taken_by_implied_mark.Goals as goal

pub returns-in-Some-clause-ok : goal.returns-in-Some-clause-ok
returns-in-Some-clause-ok c =
    on_ok_weaker c.add_taken_by_mark-in-Some.result
    (under_mark c.args.self.now c.args.table.now c.region_id-region.result c.mark_implied_by.result c.first_appended_index-first.result c.args.taken.now c.add_taken_by_mark-in-Some.new.taken c.region_id-region.ensures
    (mark_of_table c.args.self.now c.region_id-region.result (Some c.in-Some.own.now) (ap (finite.get c.args.self.now.marks) c.region_id-region.ensures ∙ c.requires.none_kept) c.in-Some.ensures.value
    ∙ sym c.mark_implied_by.ensures)
    c.first_appended_index-first.ensures)
    c.add_taken_by_mark-in-Some.ensures.ok

pub returns-in-None-clause-ok : goal.returns-in-None-clause-ok
returns-in-None-clause-ok c =
    on_ok_weaker c.add_taken_by_mark-in-None-2.result
    (under_mark c.args.self.now c.args.table.now c.region_id-region.result c.mark_of_no_step.result c.first_appended_index-first.result c.args.taken.now c.add_taken_by_mark-in-None-2.new.taken c.region_id-region.ensures
    (mark_of_table c.args.self.now c.region_id-region.result None (ap (finite.get c.args.self.now.marks) c.region_id-region.ensures ∙ c.requires.none_kept) c.in-None.ensures.value
    ∙ sym c.mark_of_no_step.ensures)
    c.first_appended_index-first.ensures)
    c.add_taken_by_mark-in-None-2.ensures.ok
