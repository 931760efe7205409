use Rattle.raft_accessor.proofs.Common.{Rewrite, Some, not, sym, ap, subst, ◌∙◌, Table, live_of, live_of_empty, IsTableOverlaid}
use Rattle.raft_accessor.proofs.TableJoinLemmas.{cleaned_dropped, nothing_dropped, empty_put, absent, present}
use Rattle.raft_accessor.proofs.region_tables.RegionTables.apply_appended_mark.Goals as goal

pub returns-then-is_cleaned : goal.returns-then-is_cleaned
returns-then-is_cleaned c =
    cleaned_dropped c.args.mark.now c.args.self.now c.args.id c.args.stats.now c.remove.new.self c.remove.new.stats (sym c.is_cleaned.ensures ∙ c.if-is_cleaned.true) c.remove.ensures.after c.remove.ensures.counts c.remove.ensures.recounted

pub returns-then-is_none : goal.returns-then-is_none
returns-then-is_none c =
    nothing_dropped c.args.mark.now c.args.self.now c.args.id c.args.stats.now (sym c.get.ensures.value ∙ absent (λ t. t.now) c.get.result (c.is_none.ensures ∙ ap not c.if-is_none.true))

pub overlay_appended_table-requires-clause-own : goal.overlay_appended_table-requires-clause-own
overlay_appended_table-requires-clause-own c = ap (live_of Rewrite) c.new.ensures.empty ∙ live_of_empty Rewrite c.args.id

pub returns : goal.returns
returns c =
    let there = present (λ t. t.now) c.get.result (c.is_none.ensures ∙ ap not c.if-is_none.false) in
    empty_put c.args.mark.now c.args.self.now c.args.id c.args.stats.now there.0 c.overlay_appended_table-2.result c.overlay_appended_table-2.new.self c.overlay_appended_table-2.new.stats
    (sym c.get.ensures.value ∙ there.1) (sym c.is_cleaned.ensures ∙ c.if-is_cleaned.false)
    (subst (λ (t : Table). IsTableOverlaid c.args.mark.now (Some t) c.args.self.now c.args.id c.args.stats.now c.overlay_appended_table-2.result c.overlay_appended_table-2.new.self c.overlay_appended_table-2.new.stats) c.new.ensures.empty c.overlay_appended_table-2.ensures)
