use Rattle.raft_contexts.proofs.Common.{Some, nat_eq, refl, sym, ap, subst, ◌∙◌, arith, IsDistinct, keys_of, err_from_is_err_and}
use Rattle.raft_contexts.proofs.OverlayingLemmas.{all_overlaid, implied_overlaying_none, over_fault, over_step, own_taken}
use Rattle.raft_contexts.proofs.PartLemmas.{none_implied, once_behind, table_first, table_own, table_parts, tables_behind, tables_of}
use Rattle.raft_contexts.proofs.marked_tables.MarkedTables.overlay_unmarked_slot.Goals as goal

pub loop-id-init : goal.loop-id-init
loop-id-init c =
    let gives = c.into_iter-id-iterator.ensures.into_iter_gives in (
      implied_overlaying_none c.args.appended _ c.args.self.now.accessor.tables (ap tables_of gives ∙ c.into_entries-id-items.ensures.entries) c.requires.own,
      subst (λ es. IsDistinct nat_eq (keys_of es)) (sym gives) c.into_entries-id-items.ensures.once,
      refl,
    )

pub overlay_table-requires-clause-region : goal.overlay_table-requires-clause-region
overlay_table-requires-clause-region c =
    let at = c.loop-id.invariant in
    table_own _ _ _ _ c.in-Some.ensures.steps at.1 _ _ at.0.taken c.tables_are_own.ensures

pub overlay_table-requires-clause-own : goal.overlay_table-requires-clause-own
overlay_table-requires-clause-own c =
    let at = c.loop-id.invariant in
    let is = c.in-Some.ensures.steps in
    own_taken _ _ _ _ _ _ at.0 c.in-Some.id _ _ (table_parts _ _ _ _ is at.1) (Some c.in-Some.table) (table_first _ _ _ _ is at.1)

pub loop-id-preserved : goal.loop-id-preserved
loop-id-preserved c =
    let at = c.loop-id.invariant in
    let is = c.in-Some.ensures.steps in (
      over_step _ _ _ _ _ _ at.0 c.in-Some.id _ _ (table_parts _ _ _ _ is at.1) (Some c.in-Some.table) (table_first _ _ _ _ is at.1) c.overlay_table.new.self.tables _
          (rw (c.mark_implied_by-mark.ensures, c.get.ensures) at c.in_ok-overlay_table.ensures.overlaid.ok) c.in_ok-overlay_table.ensures.overlaid.one c.in_ok-overlay_table.ensures.overlaid.few (tables_behind _ _ _ _ is at.1),
      once_behind _ _ _ _ is at.1,
      c.overlay_table.ensures.cleaned ∙ at.2,
    )

pub returns-in_err-overlay_table-clause-fault : goal.returns-in_err-overlay_table-clause-fault
returns-in_err-overlay_table-clause-fault c =
    let at = c.loop-id.invariant in
    let is = c.in-Some.ensures.steps in
    let p = err_from_is_err_and c.from_residual.result c.from_residual.ensures.1 in
    rw (p.1, p.2) (over_fault _ _ _ _ _ _ at.0 c.in-Some.id _ _ (table_parts _ _ _ _ is at.1) (Some c.in-Some.table)
    (table_first _ _ _ _ is at.1) c.loop-id.self.accessor.counts _ c.overlay_table.ensures.exact_counts c.in_err-overlay_table.ensures.overlaid.fault)

pub returns-clause-ok : goal.returns-clause-ok
returns-clause-ok c = all_overlaid _ _ _ _ _ _ c.loop-id.invariant.0 (none_implied _ c.in-None.ensures.steps.0)

pub returns-clause-few : goal.returns-clause-few
returns-clause-few c = λ q. omega (arith, c.loop-id.invariant.0.few q)
