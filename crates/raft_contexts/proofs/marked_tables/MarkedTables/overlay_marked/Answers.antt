use Rattle.raft_contexts.proofs.Common.{suc, refl, sym, ap, subst, ◌∙◌, arith, err_from_is_err_and, together, AreSlots}
use Rattle.raft_contexts.proofs.OverlayingLemmas.{all_overlaid, overlaying_none, overlaying_step, still_too_many}
use Rattle.raft_contexts.proofs.PartLemmas.{all_taken, none_together, slot_parts}
use Rattle.raft_contexts.proofs.marked_tables.MarkedTables.overlay_marked.Goals as goal

pub loop-slot-init : goal.loop-slot-init
loop-slot-init c = (
  overlaying_none c.args.appended.now.tables c.args.self.now.accessor.tables c.args.marks _ (ap together c.into_iter-slot-iterator.ensures.into_iter_gives.0 ∙ c.into_slots-slot-items.ensures.marks) c.requires.own,
  (0, subst (AreSlots 0) (sym c.into_iter-slot-iterator.ensures.into_iter_gives.0) c.into_slots-slot-items.ensures.slots),
  refl,
)

pub loop-slot-preserved : goal.loop-slot-preserved
loop-slot-preserved c =
    let at = c.loop-slot.invariant in
    let is = c.in-Some.ensures.steps.0 in (
      overlaying_step _ _ _ _ _ _ at.0 _ _ (slot_parts _ _ _ at.1.0 is at.1.1) c.overlay_marked_slot.new.self.accessor.tables c.overlay_marked_slot.new.appended.tables
          c.in_ok-overlay_marked_slot.ensures.ok c.in_ok-overlay_marked_slot.ensures.left c.in_ok-overlay_marked_slot.ensures.own_left c.in_ok-overlay_marked_slot.ensures.few,
      (suc at.1.0, (subst (AreSlots at.1.0) is at.1.1).1),
      c.overlay_marked_slot.ensures.cleaned ∙ at.2,
    )

pub returns-in_err-overlay_marked_slot : goal.returns-in_err-overlay_marked_slot
returns-in_err-overlay_marked_slot c =
    let p = err_from_is_err_and c.from_residual.result c.from_residual.ensures.1 in
    let at = c.loop-slot.invariant in
    let f = c.in_err-overlay_marked_slot.ensures.fault in
    rw (p.1, p.2) record { ok = λ _. tt; own_left = tt; left = tt; few = tt; cleaned = c.overlay_marked_slot.ensures.cleaned ∙ at.2; fault = (f.0, still_too_many _ _ _ (at.0.few f.0) f.1) }

pub returns : goal.returns
returns c =
    let at = c.loop-slot.invariant in
    let none = none_together _ (omega (arith, c.in-None.ensures.steps.0, c.loop-slot.slot-iterator.rest.ok.0)) in
    record { ok = all_overlaid _ _ _ _ _ _ at.0 none; own_left = at.0.own_left; left = all_taken _ _ _ _ at.0.taken none; few = at.0.few; cleaned = at.2; fault = tt }
