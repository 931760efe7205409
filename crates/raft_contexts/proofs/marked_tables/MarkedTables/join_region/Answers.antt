use Rattle.raft_contexts.proofs.Common.{◌≡◌, Some, sym, ap, subst, ◌∙◌, region_in, joined_region, IsRunOver, joined_at, Mark, table_of, table_in, regions_in, mark_in, ℕ, refl, all_marks}
use Rattle.std.specs.FinMap as finite
use Rattle.raft_contexts.proofs.RegionJoinLemmas.{region_with, region_joined, live_joined}
use Rattle.raft_contexts.proofs.ImpliedMarkLemmas.{joined_all}
use Rattle.raft_contexts.proofs.marked_tables.MarkedTables.join_region.Goals as goal

run_joined : (c : goal.After-drop-mark-inside-in-Some) →
    all_marks c.join_table.new.self.tables c.add_run.new.self ≡ finite.insert (regions_in c.args.self.now).marks c.args.id
    (joined_at c.args.queue c.in_ok-ends.ends.1 (mark_in (regions_in c.args.self.now).marks c.args.id) c.into_mark-mark.result)
run_joined c = joined_all c.args.queue c.args.id c.args.self.now.accessor.tables c.join_table.new.self.tables c.args.self.now.marks c.keep_implied_mark.new.self c.add_run.new.self c.in_ok-ends.ends.1 _ c.into_mark-mark.result
    c.in_ok-ends.ensures.joined.one c.keep_implied_mark.ensures.same c.in_ok-keep_implied_mark.ensures.kept c.in_ok-add_run.ensures.ok (sym (c.into_mark-mark.ensures ∙ c.in-Some.ensures))

pub returns-in-Some-clause-ok : goal.returns-in-Some-clause-ok
returns-in-Some-clause-ok c =
    let new = regions_in (record { accessor = c.join_table.new.self; marks = c.add_run.new.self }) in
    subst (λ (m : Mark). IsRunOver c.args.queue m (table_of c.args.id c.args.newer) (table_in c.args.self.now.accessor.tables c.args.id) →
    joined_region c.args.queue c.args.id (region_in (regions_in c.args.self.now) c.args.id) (record { mark = m; table = c.args.newer }) ≡ Some
    (region_in new c.args.id)) c.into_mark-mark.ensures
    (λ run. region_joined c.args.queue (regions_in c.args.self.now) new c.args.id c.into_mark-mark.result c.args.newer c.in_ok-ends.ends.1
    (ap (λ (p : ℕ × ℕ). p.1) c.in_ok-ends.ensures.joined.answer.ends) (run_joined c) (c.in_ok-ends.ensures.joined.ok run))

pub returns-in-Some-clause-others : goal.returns-in-Some-clause-others
returns-in-Some-clause-others c = region_with (regions_in c.args.self.now) (regions_in (record { accessor = c.join_table.new.self; marks = c.add_run.new.self })) c.args.id _ c.in_ok-ends.ensures.joined.one (run_joined c)

pub returns-in-Some-clause-few : goal.returns-in-Some-clause-few
returns-in-Some-clause-few c = λ q. live_joined q c.args.self.now.accessor.tables c.join_table.new.self.tables c.args.id c.args.newer c.in_ok-ends.ensures.joined.one (c.in_ok-ends.ensures.joined.few q)

pub returns-clause-ok : goal.returns-clause-ok
returns-clause-ok c =
    let new = regions_in (record { accessor = c.join_table.new.self; marks = c.join.new.self }) in
    subst (λ (m : Mark). IsRunOver c.args.queue m (table_of c.args.id c.args.newer) (table_in c.args.self.now.accessor.tables c.args.id) →
    joined_region c.args.queue c.args.id (region_in (regions_in c.args.self.now) c.args.id) (record { mark = m; table = c.args.newer }) ≡ Some
    (region_in new c.args.id)) c.into_mark-mark.ensures
    (λ run. region_joined c.args.queue (regions_in c.args.self.now) new c.args.id c.into_mark-mark.result c.args.newer c.in_ok-ends.ends.1 (ap (λ (p : ℕ × ℕ). p.1) c.in_ok-ends.ensures.joined.answer.ends)
    (joined_all c.args.queue c.args.id c.args.self.now.accessor.tables c.join_table.new.self.tables c.args.self.now.marks c.keep_implied_mark.new.self c.join.new.self c.in_ok-ends.ends.1 _ c.into_mark-mark.result
    c.in_ok-ends.ensures.joined.one c.keep_implied_mark.ensures.same c.in_ok-keep_implied_mark.ensures.kept c.in_ok-join.ensures.ok refl) (c.in_ok-ends.ensures.joined.ok run))

pub returns-clause-others : goal.returns-clause-others
returns-clause-others c = region_with (regions_in c.args.self.now) (regions_in (record { accessor = c.join_table.new.self; marks = c.join.new.self })) c.args.id _ c.in_ok-ends.ensures.joined.one
    (joined_all c.args.queue c.args.id c.args.self.now.accessor.tables c.join_table.new.self.tables c.args.self.now.marks c.keep_implied_mark.new.self c.join.new.self c.in_ok-ends.ends.1 _ c.into_mark-mark.result
    c.in_ok-ends.ensures.joined.one c.keep_implied_mark.ensures.same c.in_ok-keep_implied_mark.ensures.kept c.in_ok-join.ensures.ok refl)

pub returns-clause-few : goal.returns-clause-few
returns-clause-few c = λ q. live_joined q c.args.self.now.accessor.tables c.join_table.new.self.tables c.args.id c.args.newer c.in_ok-ends.ensures.joined.one (c.in_ok-ends.ensures.joined.few q)
