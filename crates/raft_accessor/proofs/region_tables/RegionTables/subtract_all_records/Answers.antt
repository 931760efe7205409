use Rattle.std.proofs.Common.{refl, ◌∙◌, arith}
use Rattle.raft_accessor.proofs.SlotTableLemmas.{walked-live, all-deleted}
use Rattle.raft_accessor.proofs.region_tables.RegionTables.subtract_all_records.Goals as goal

pub loop-table-init : goal.loop-table-init
loop-table-init c = (
  (λ q. omega (arith, c.requires q, walked-live q c.self.inside.tables.entries c.args.self.now _ c.values-table-items.ensures.unique c.self.view_is (c.into_iter-table-iterator.ensures.into_iter_gives ∙ c.values-table-items.ensures.rest))),
  refl,
  refl,
  refl,
)

pub returns : goal.returns
returns c =
    all-deleted c.args.stats.now c.loop-table.stats c.args.self.now c.into_iter-table-iterator.result c.loop-table.table-iterator
    (λ q. walked-live q c.self.inside.tables.entries c.args.self.now _ c.values-table-items.ensures.unique c.self.view_is (c.into_iter-table-iterator.ensures.into_iter_gives ∙ c.values-table-items.ensures.rest))
    c.in-None.ensures.steps.0 c.loop-table.invariant.1 c.loop-table.invariant.2 c.loop-table.invariant.3
