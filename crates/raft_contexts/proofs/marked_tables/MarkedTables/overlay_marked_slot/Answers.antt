use Rattle.raft_contexts.proofs.Common.{refl, sym, ap, subst, ◌∙◌, nat_eq, IsDistinct, keys_of, err_from_is_err_and}
use Rattle.std.specs.FinMap as finite
use Rattle.raft_contexts.proofs.OverlayingLemmas.{all_overlaid, over_fault, over_step, overlaying_none, own_taken}
use Rattle.raft_contexts.proofs.PartLemmas.{all_taken, entry_parts, none_of, once_behind}
use Rattle.raft_contexts.proofs.marked_tables.MarkedTables.overlay_marked_slot.Goals as goal

pub loop-id-init : goal.loop-id-init
loop-id-init c =
    let gives = c.into_iter-id-iterator.ensures.into_iter_gives in (
      overlaying_none c.args.appended.now.tables c.args.self.now.accessor.tables c.args.marks _ (ap (λ es. finite.from_entries es) gives ∙ c.into_entries-id-items.ensures.entries) c.requires.own,
      subst (λ es. IsDistinct nat_eq (keys_of es)) (sym gives) c.into_entries-id-items.ensures.once,
      refl,
    )

pub overlay_table-requires-clause-own : goal.overlay_table-requires-clause-own
overlay_table-requires-clause-own c =
    let at = c.loop-id.invariant in
    own_taken _ _ _ _ _ _ at.0 c.in-Some.id c.in-Some.mark _ (entry_parts _ _ _ _ c.in-Some.ensures.steps at.1) c.take-table.result c.take-table.ensures.taken.removed

pub loop-id-preserved : goal.loop-id-preserved
loop-id-preserved c =
    let at = c.loop-id.invariant in
    let is = c.in-Some.ensures.steps in (
      over_step _ _ _ _ _ _ at.0 c.in-Some.id c.in-Some.mark _ (entry_parts _ _ _ _ is at.1) c.take-table.result c.take-table.ensures.taken.removed
          c.overlay_table.new.self.tables c.take-table.new.self.tables (rw c.into_mark-mark.ensures at c.in_ok-overlay_table.ensures.overlaid.ok)
          c.in_ok-overlay_table.ensures.overlaid.one c.in_ok-overlay_table.ensures.overlaid.few c.take-table.ensures.taken.tables,
      once_behind _ _ _ _ is at.1,
      c.take-table.ensures.taken.cleaned ∙ at.2,
    )

pub returns-in_err-overlay_table : goal.returns-in_err-overlay_table
returns-in_err-overlay_table c =
    let at = c.loop-id.invariant in
    let p = err_from_is_err_and c.from_residual.result c.from_residual.ensures.1 in
    rw (p.1, p.2) record {
      ok = λ _. tt;
      own_left = tt;
      left = tt;
      few = tt;
      cleaned = c.take-table.ensures.taken.cleaned ∙ at.2;
      fault = over_fault _ _ _ _ _ _ at.0 c.in-Some.id c.in-Some.mark _ (entry_parts _ _ _ _ c.in-Some.ensures.steps at.1) c.take-table.result c.take-table.ensures.taken.removed
          c.loop-id.self.accessor.counts _ c.overlay_table.ensures.exact_counts c.in_err-overlay_table.ensures.overlaid.fault;
    }

pub returns : goal.returns
returns c =
    let at = c.loop-id.invariant in
    let none = none_of _ c.in-None.ensures.steps.0 in
    record { ok = all_overlaid _ _ _ _ _ _ at.0 none; own_left = at.0.own_left; left = all_taken _ _ _ _ at.0.taken none; few = at.0.few; cleaned = at.2; fault = tt }
