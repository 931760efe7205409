use Rattle.raft_accessor.proofs.Common.{Append, Rewrite, ℕ, length, ap, ◌∙◌, arith, LogQueue, Table, live_of, records_of_both}
use Rattle.std.specs.FinMap as finite
use Rattle.raft_accessor.proofs.SlotTableLemmas.{walked-live}
use Rattle.raft_accessor.proofs.TotalSums.{added, walked-total}
use Rattle.raft_accessor.proofs.region_tables.RegionTables.entries_count.Goals as goal

pub loop-table-preserved : goal.loop-table-preserved
loop-table-preserved c =
    let left = λ (f : Table → ℕ). ap (added f) c.in-Some.ensures.steps in
    let is = λ (f : Table → ℕ). ap f c.get-table.ensures in
    let both = records_of_both c.get-table.result.now c.holds_one_run.ensures in
    let entries = λ (t : Table). length t.entries in
    let keys = λ (t : Table). finite.len t.keys in (
      omega (arith, c.loop-table.invariant.0, left entries, is entries, c.entries_count.ensures),
      omega (arith, c.loop-table.invariant.1, ap length c.in-Some.ensures.steps),
      omega (arith, c.loop-table.invariant.2, left keys, left (live_of Append), left (live_of Rewrite), is keys, is (live_of Append), is (live_of Rewrite), c.entries_count.ensures, both),
    )

pub returns-clause-entries : goal.returns-clause-entries
returns-clause-entries c =
    let all = c.into_iter-table-iterator.ensures.into_iter_gives ∙ c.values-table-items.ensures.rest in
    let entries = λ (t : Table). length t.entries in
    omega (arith, c.loop-table.invariant.0, ap (added entries) c.in-None.ensures.steps.0, walked-total entries c.self.inside.tables.entries c.args.self.now _ c.values-table-items.ensures.unique c.self.view_is all)

pub returns-clause-others : goal.returns-clause-others
returns-clause-others c =
    let all = c.into_iter-table-iterator.ensures.into_iter_gives ∙ c.values-table-items.ensures.rest in
    let none = λ (f : Table → ℕ). ap (added f) c.in-None.ensures.steps.0 in
    let keys = λ (t : Table). finite.len t.keys in
    let total = walked-total keys c.self.inside.tables.entries c.args.self.now _ c.values-table-items.ensures.unique c.self.view_is all in
    let live = λ (q : LogQueue). walked-live q c.self.inside.tables.entries c.args.self.now _ c.values-table-items.ensures.unique c.self.view_is all in
    omega (arith, c.loop-table.invariant.2, none keys, none (live_of Append), none (live_of Rewrite), total, live Append, live Rewrite)
