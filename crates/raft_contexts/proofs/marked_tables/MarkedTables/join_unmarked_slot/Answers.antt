use Rattle.raft_contexts.proofs.Common.{Some, nat_eq, refl, sym, ap, subst, ◌∙◌, arith, IsDistinct, keys_of, err_from_is_err_and, regions_in}
use Rattle.raft_contexts.proofs.JoiningLemmas.{all_joined, implied_joining_none, region_alone, region_fault, region_step}
use Rattle.raft_contexts.proofs.PartLemmas.{none_implied, once_behind, table_first, table_own, table_parts, tables_behind, tables_of}
use Rattle.raft_contexts.proofs.marked_tables.MarkedTables.join_unmarked_slot.Goals as goal

pub loop-id-init : goal.loop-id-init
loop-id-init c =
    let gives = c.into_iter-id-iterator.ensures.into_iter_gives in (
      implied_joining_none c.args.queue c.args.tables _ (regions_in c.args.self.now) (ap tables_of gives ∙ c.into_entries-id-items.ensures.entries) c.requires.older c.requires.newer,
      subst (λ es. IsDistinct nat_eq (keys_of es)) (sym gives) c.into_entries-id-items.ensures.once,
      refl,
    )

pub join_unmarked_region-requires-clause-region : goal.join_unmarked_region-requires-clause-region
join_unmarked_region-requires-clause-region c =
    let at = c.loop-id.invariant in
    table_own _ _ _ _ c.in-Some.ensures.steps at.1 _ _ at.0.taken c.tables_are_own.ensures

pub join_unmarked_region-requires-clause-own : goal.join_unmarked_region-requires-clause-own
join_unmarked_region-requires-clause-own c =
    let at = c.loop-id.invariant in
    let is = c.in-Some.ensures.steps in
    region_alone _ _ _ _ _ _ _ at.0 c.in-Some.id _ _ (table_parts _ _ _ _ is at.1) (Some c.in-Some.table) (table_first _ _ _ _ is at.1)

pub loop-id-preserved : goal.loop-id-preserved
loop-id-preserved c =
    let at = c.loop-id.invariant in
    let is = c.in-Some.ensures.steps in (
      region_step _ _ _ _ _ _ _ at.0 c.in-Some.id _ _ (table_parts _ _ _ _ is at.1) (Some c.in-Some.table) (table_first _ _ _ _ is at.1)
          (regions_in c.join_unmarked_region.new.self) _ c.in_ok-join_unmarked_region.ensures.ok c.in_ok-join_unmarked_region.ensures.others c.in_ok-join_unmarked_region.ensures.few (tables_behind _ _ _ _ is at.1),
      once_behind _ _ _ _ is at.1,
      c.join_unmarked_region.ensures.cleaned ∙ at.2,
    )

pub returns-in_err-join_unmarked_region-clause-fault : goal.returns-in_err-join_unmarked_region-clause-fault
returns-in_err-join_unmarked_region-clause-fault c =
    let at = c.loop-id.invariant in
    let is = c.in-Some.ensures.steps in
    let p = err_from_is_err_and c.from_residual.result c.from_residual.ensures.1 in
    rw (p.1, p.2) (region_fault _ _ _ _ _ _ _ at.0 c.in-Some.id _ _ (table_parts _ _ _ _ is at.1) (Some c.in-Some.table)
    (table_first _ _ _ _ is at.1) c.loop-id.self.accessor.counts _ c.join_unmarked_region.ensures.exact_counts c.in_err-join_unmarked_region.ensures.fault)

pub returns-clause-ok : goal.returns-clause-ok
returns-clause-ok c = all_joined _ _ _ _ _ _ _ c.loop-id.invariant.0 (none_implied _ c.in-None.ensures.steps.0)

pub returns-clause-few : goal.returns-clause-few
returns-clause-few c = λ q. omega (arith, c.loop-id.invariant.0.few q)
