use Rattle.raft_contexts.proofs.Common.{ℕ, Some, refl, ap, err_from_is_err_and, regions_in, implied_mark}
use Rattle.raft_contexts.proofs.ImpliedJoinLemmas.{joined_run, joined_blank, first_of_entries}
use Rattle.raft_contexts.proofs.RegionJoinLemmas.{region_with, region_joined, live_joined}
use Rattle.raft_contexts.proofs.marked_tables.MarkedTables.join_unmarked_region.Goals as goal

pub returns-in_err-ends-clause-fault : goal.returns-in_err-ends-clause-fault
returns-in_err-ends-clause-fault c =
    let p = err_from_is_err_and c.from_residual.result c.from_residual.ensures.1 in
    λ run. rw (p.1, p.2) ((rw (c.mark_implied_by-mark.ensures, c.get-table.ensures) at c.in_err-ends.ensures.joined.fault) run)

pub returns-in-Some-clause-ok : goal.returns-in-Some-clause-ok
returns-in-Some-clause-ok c = λ run.
    let is = (rw (c.mark_implied_by-mark.ensures, c.get-table.ensures) at c.in_ok-ends.ensures.joined.ok) run in
    let met = rw (c.mark_implied_by-mark.ensures, c.get-table.ensures) at c.in_ok-ends.ensures.joined.answer in
    region_joined c.args.queue (regions_in c.args.self.now) (regions_in (record { accessor = c.join_table.new.self; marks = c.mark_run.new.self })) c.args.id (implied_mark c.args.newer) (Some c.args.newer) c.in_ok-ends.ends.1
    (ap (λ (p : ℕ × ℕ). p.1) met.ends)
    (joined_run c.args.queue c.args.id c.args.self.now.accessor.tables c.join_table.new.self.tables c.args.self.now.marks c.mark_run.new.self c.args.newer c.in_ok-ends.ends c.in_ok-ends.ensures.joined.one is met
    c.in-Some.first (first_of_entries _ _ (rw (c.in-Some.is, c.get-table.ensures) at c.first_index-first.ensures)) c.in_ok-mark_run-in-Some.ensures) is

pub returns-in-Some-clause-others : goal.returns-in-Some-clause-others
returns-in-Some-clause-others c = λ run.
    let is = (rw (c.mark_implied_by-mark.ensures, c.get-table.ensures) at c.in_ok-ends.ensures.joined.ok) run in
    let met = rw (c.mark_implied_by-mark.ensures, c.get-table.ensures) at c.in_ok-ends.ensures.joined.answer in
    region_with (regions_in c.args.self.now) (regions_in (record { accessor = c.join_table.new.self; marks = c.mark_run.new.self })) c.args.id _ c.in_ok-ends.ensures.joined.one
    (joined_run c.args.queue c.args.id c.args.self.now.accessor.tables c.join_table.new.self.tables c.args.self.now.marks c.mark_run.new.self c.args.newer c.in_ok-ends.ends c.in_ok-ends.ensures.joined.one is met
    c.in-Some.first (first_of_entries _ _ (rw (c.in-Some.is, c.get-table.ensures) at c.first_index-first.ensures)) c.in_ok-mark_run-in-Some.ensures)

pub returns-in-Some-clause-few : goal.returns-in-Some-clause-few
returns-in-Some-clause-few c = λ q. live_joined q c.args.self.now.accessor.tables c.join_table.new.self.tables c.args.id (Some c.args.newer) c.in_ok-ends.ensures.joined.one (c.in_ok-ends.ensures.joined.few q)

pub returns-clause-ok : goal.returns-clause-ok
returns-clause-ok c = λ run.
    let is = (rw (c.mark_implied_by-mark.ensures, c.get-table.ensures) at c.in_ok-ends.ensures.joined.ok) run in
    let met = rw (c.mark_implied_by-mark.ensures, c.get-table.ensures) at c.in_ok-ends.ensures.joined.answer in
    region_joined c.args.queue (regions_in c.args.self.now) (regions_in (record { accessor = c.join_table.new.self; marks = c.args.self.now.marks })) c.args.id (implied_mark c.args.newer) (Some c.args.newer) c.in_ok-ends.ends.1
    (ap (λ (p : ℕ × ℕ). p.1) met.ends)
    (joined_blank c.args.queue c.args.id c.args.self.now.accessor.tables c.join_table.new.self.tables c.args.self.now.marks c.args.self.now.marks c.args.newer c.in_ok-ends.ends c.in_ok-ends.ensures.joined.one is met
    (rw (c.in-None.is, c.get-table.ensures) at c.first_index-first.ensures) refl) is

pub returns-clause-others : goal.returns-clause-others
returns-clause-others c = λ run.
    let is = (rw (c.mark_implied_by-mark.ensures, c.get-table.ensures) at c.in_ok-ends.ensures.joined.ok) run in
    let met = rw (c.mark_implied_by-mark.ensures, c.get-table.ensures) at c.in_ok-ends.ensures.joined.answer in
    region_with (regions_in c.args.self.now) (regions_in (record { accessor = c.join_table.new.self; marks = c.args.self.now.marks })) c.args.id _ c.in_ok-ends.ensures.joined.one
    (joined_blank c.args.queue c.args.id c.args.self.now.accessor.tables c.join_table.new.self.tables c.args.self.now.marks c.args.self.now.marks c.args.newer c.in_ok-ends.ends c.in_ok-ends.ensures.joined.one is met
    (rw (c.in-None.is, c.get-table.ensures) at c.first_index-first.ensures) refl)

pub returns-clause-few : goal.returns-clause-few
returns-clause-few c = λ q. live_joined q c.args.self.now.accessor.tables c.join_table.new.self.tables c.args.id (Some c.args.newer) c.in_ok-ends.ensures.joined.one (c.in_ok-ends.ensures.joined.few q)
