use Rattle.raft_contexts.proofs.Common.{suc, refl, sym, ap, subst, ◌∙◌, arith, err_from_is_err_and, together, AreSlots}
use Rattle.raft_contexts.proofs.OverlayingLemmas.{all_overlaid, implied_overlaying_none, slot_over, slot_own, still_too_many}
use Rattle.raft_contexts.proofs.PartLemmas.{no_slots_implied, slot_live, slot_parts}
use Rattle.raft_contexts.proofs.marked_tables.MarkedTables.overlay_unmarked.Goals as goal

pub loop-slot-init : goal.loop-slot-init
loop-slot-init c =
    let all = c.into_iter-slot-iterator.ensures.into_iter_gives.0 in (
      implied_overlaying_none c.args.appended.tables _ c.args.self.now.accessor.tables (ap together all ∙ c.into_slots-slot-items.ensures.tables) c.requires.own,
      (0, subst (AreSlots 0) (sym all) c.into_slots-slot-items.ensures.slots),
      refl,
    )

pub overlay_unmarked_slot-requires : goal.overlay_unmarked_slot-requires
overlay_unmarked_slot-requires c =
    let at = c.loop-slot.invariant in
    let is = c.in-Some.ensures.steps.0 in
    record { own = slot_own _ _ _ _ _ _ (slot_parts _ _ _ at.1.0 is at.1.1) (slot_live _ _ _ at.1.0 is at.1.1) at.0 }

pub loop-slot-preserved : goal.loop-slot-preserved
loop-slot-preserved c =
    let at = c.loop-slot.invariant in
    let is = c.in-Some.ensures.steps.0 in (
      slot_over _ _ _ _ _ _ (slot_parts _ _ _ at.1.0 is at.1.1) (slot_live _ _ _ at.1.0 is at.1.1) at.0 c.overlay_unmarked_slot.new.self.accessor.tables c.in_ok-overlay_unmarked_slot.ensures.ok c.in_ok-overlay_unmarked_slot.ensures.few,
      (suc at.1.0, (subst (AreSlots at.1.0) is at.1.1).1),
      c.overlay_unmarked_slot.ensures.cleaned ∙ at.2,
    )

pub returns-in_err-overlay_unmarked_slot-clause-fault : goal.returns-in_err-overlay_unmarked_slot-clause-fault
returns-in_err-overlay_unmarked_slot-clause-fault c =
    let at = c.loop-slot.invariant in
    let p = err_from_is_err_and c.from_residual.result c.from_residual.ensures.1 in
    let f = c.in_err-overlay_unmarked_slot.ensures.fault in
    rw (p.1, p.2) (f.0, still_too_many _ _ _ (omega (arith, at.0.few f.0, slot_live _ _ _ at.1.0 c.in-Some.ensures.steps.0 at.1.1 f.0)) f.1)

pub returns-clause-ok : goal.returns-clause-ok
returns-clause-ok c = all_overlaid _ _ _ _ _ _ c.loop-slot.invariant.0 (no_slots_implied _ (omega (arith, c.in-None.ensures.steps.0, c.loop-slot.slot-iterator.rest.ok.0)))
