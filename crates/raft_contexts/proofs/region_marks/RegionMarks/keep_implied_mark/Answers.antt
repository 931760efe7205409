use Rattle.raft_contexts.proofs.Common.{sym, ap, ◌∙◌, option_map, table_of}
use Rattle.raft_contexts.proofs.ImpliedMarkLemmas.{mark_kept, kept_blank, kept_same, kept_now}
use Rattle.raft_contexts.proofs.SlotMarksLemmas.{mark_of_some}
use Rattle.raft_contexts.proofs.region_marks.RegionMarks.keep_implied_mark.Goals as goal

pub returns-then-has_mark-clause-kept : goal.returns-then-has_mark-clause-kept
returns-then-has_mark-clause-kept c = mark_of_some c.args.self.now c.args.id _ (mark_kept c.args.tables.now.tables c.args.self.now c.args.id (sym c.has_mark.ensures ∙ c.if-has_mark.true))

pub returns-in_default-clause-kept : goal.returns-in_default-clause-kept
returns-in_default-clause-kept c = kept_blank c.args.tables.now.tables c.args.self.now c.args.id (sym c.has_mark.ensures ∙ c.if-has_mark.false)
    (ap (λ o. (table_of c.args.id o).entries) (sym c.get.ensures.value ∙ ap (option_map (λ t. t.now)) c.in_default.is))

pub returns-in-None-clause-kept : goal.returns-in-None-clause-kept
returns-in-None-clause-kept c = kept_blank c.args.tables.now.tables c.args.self.now c.args.id (sym c.has_mark.ensures ∙ c.if-has_mark.false)
    (ap (λ o. (table_of c.args.id o).entries) (sym c.get.ensures.value ∙ ap (option_map (λ t. t.now)) c.in-Some.is) ∙ c.in-None.ensures)

pub returns-in-Some-first_index-clause-same : goal.returns-in-Some-first_index-clause-same
returns-in-Some-first_index-clause-same c = kept_same c.args.tables.now.tables c.args.self.now c.keep_run_mark.new.self c.args.id c.in-Some-first_index.start c.in-Some.table.now c.keep_run_mark.result
    (sym c.has_mark.ensures ∙ c.if-has_mark.false) (sym c.get.ensures.value ∙ ap (option_map (λ t. t.now)) c.in-Some.is) c.in-Some-first_index.ensures.0 c.in-Some-first_index.ensures.1 c.keep_run_mark.ensures.ok c.keep_run_mark.ensures.err

pub returns-in-Some-first_index-clause-kept : goal.returns-in-Some-first_index-clause-kept
returns-in-Some-first_index-clause-kept c = kept_now c.args.tables.now.tables c.args.self.now c.keep_run_mark.new.self c.args.id c.in-Some-first_index.start c.in-Some.table.now c.keep_run_mark.result
    (sym c.has_mark.ensures ∙ c.if-has_mark.false) (sym c.get.ensures.value ∙ ap (option_map (λ t. t.now)) c.in-Some.is) c.in-Some-first_index.ensures.0 c.in-Some-first_index.ensures.1 c.keep_run_mark.ensures.ok c.keep_run_mark.ensures.err
