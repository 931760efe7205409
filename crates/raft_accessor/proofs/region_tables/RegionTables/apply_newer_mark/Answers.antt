use Rattle.raft_accessor.proofs.Common.{Some, refl, sym, ap, subst, ◌∙◌, err_from_is_err_and, other, Table, live_of, live_of_empty, IsTableJoined}
use Rattle.std.specs.Prelude.{option_map}
use Rattle.raft_accessor.proofs.TableJoinLemmas.{ends_met, nothing_joined, empty_joined, cleaned_joined, mark_refused, not_joined}
use Rattle.raft_accessor.proofs.MapLemmas.{with_same}
use Rattle.raft_accessor.proofs.region_tables.RegionTables.apply_newer_mark.Goals as goal

pub returns-in_default : goal.returns-in_default
returns-in_default c = nothing_joined c.args.queue c.args.mark.now c.args.self.now c.args.id c.args.stats.now (sym c.get.ensures.value ∙ ap (option_map (λ t. t.now)) c.in_default.is)

pub returns-in_err-empty : goal.returns-in_err-empty
returns-in_err-empty c =
    let p = err_from_is_err_and c.from_residual.result c.from_residual.ensures.1 in
    rw (p.1, p.2) (not_joined c.args.queue c.args.mark.now _ c.args.self.now c.args.id c.args.stats.now _ c.args.self.now c.args.stats.now refl (sym (with_same c.args.self.now c.args.id)) (λ q. refl))

pub join_newer_table-requires-clause-own : goal.join_newer_table-requires-clause-own
join_newer_table-requires-clause-own c = ap (live_of (other c.args.queue)) c.in_ok-empty.ensures ∙ live_of_empty (other c.args.queue) c.args.id

pub returns-then-not-is_cleaned : goal.returns-then-not-is_cleaned
returns-then-not-is_cleaned c =
    empty_joined c.args.queue c.args.mark.now c.args.self.now c.args.id c.args.stats.now c.in-Some.table.now c.join_newer_table.result c.join_newer_table.new.self c.join_newer_table.new.stats
    (sym c.get.ensures.value ∙ ap (option_map (λ t. t.now)) c.in-Some.is) (sym c.is_cleaned.ensures ∙ c.if-not-is_cleaned.true)
    (subst (λ (t : Table). IsTableJoined c.args.queue c.args.mark.now (Some t) c.args.self.now c.args.id c.args.stats.now c.join_newer_table.result c.join_newer_table.new.self c.join_newer_table.new.stats) c.in_ok-empty.ensures c.join_newer_table.ensures)

pub returns-in_err-check_newer_mark : goal.returns-in_err-check_newer_mark
returns-in_err-check_newer_mark c =
    let p = err_from_is_err_and c.from_residual-in_err-check_newer_mark.result c.from_residual-in_err-check_newer_mark.ensures.1 in
    rw (p.1, p.2) (mark_refused c.args.queue c.args.mark.now c.args.self.now c.args.id c.args.stats.now c.in-Some.table.now _ (sym c.get.ensures.value ∙ ap (option_map (λ t. t.now)) c.in-Some.is) c.in_err-check_newer_mark.ensures.fault)

pub returns : goal.returns
returns c =
    cleaned_joined c.args.queue c.args.mark.now c.args.self.now c.args.id c.args.stats.now c.in-Some.table.now (c.first_index_or_zero-start.result, c.end_at_reach-end.result) c.remove.new.self c.remove.new.stats
    (sym c.get.ensures.value ∙ ap (option_map (λ t. t.now)) c.in-Some.is) (sym c.is_cleaned.ensures ∙ c.if-not-is_cleaned.false)
    c.in_ok-check_newer_mark.ensures.ok (ends_met c.args.mark.now c.in-Some.table.now c.first_index_or_zero-start.result c.end_at_reach-end.result c.first_index_or_zero-start.ensures.start
    c.end_at_reach-end.ensures c.first_index_or_zero-start.ensures.run) c.remove.ensures.after c.remove.ensures.counts c.remove.ensures.recounted
