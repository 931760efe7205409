use Rattle.raft_contexts.proofs.Common.{◌≡◌, length, refl, sym, ap, subst, ◌∙◌, arith, err_from_is_err_and, other, live_in_all, together, AreSlots, regions_in, MarkedTables}
use Rattle.raft_contexts.proofs.JoiningLemmas.{AreJoining, all_joined, joining_fault, joining_none, joining_step}
use Rattle.raft_contexts.proofs.PartLemmas.{all_taken, none_together, parts_among, slot_parts}
use Rattle.raft_contexts.proofs.marked_tables.MarkedTables.join_marked.Goals as goal

pub loop-slot-init : goal.loop-slot-init
loop-slot-init c =
    let all = c.into_iter-slot-iterator.ensures.into_iter_gives.0 in (
      joining_none c.args.queue c.args.tables.now.tables (regions_in c.args.self.now) c.args.marks _ (ap together all ∙ c.into_slots-slot-items.ensures.marks) c.requires.older c.requires.newer,
      subst (AreSlots 0) (sym all) c.into_slots-slot-items.ensures.slots,
      omega (arith, ap length all, c.into_slots-slot-items.ensures.few),
      refl,
      refl,
    )

pub make_room-requires : goal.make_room-requires
make_room-requires c = omega (arith, ap length c.in-Some.ensures.steps.0, c.loop-slot.invariant.2)

pub join_marked_slot-requires-clause-older : goal.join_marked_slot-requires-clause-older
join_marked_slot-requires-clause-older c = subst (λ (x : MarkedTables). live_in_all (other c.args.queue) x.accessor.tables ≡ 0) (sym c.make_room.ensures) c.loop-slot.invariant.0.alone

pub join_marked_slot-requires-clause-newer : goal.join_marked_slot-requires-clause-newer
join_marked_slot-requires-clause-newer c = c.loop-slot.invariant.0.alone_left

pub loop-slot-preserved : goal.loop-slot-preserved
loop-slot-preserved c =
    let at = c.loop-slot.invariant in
    let is = c.in-Some.ensures.steps.0 in (
      joining_step _ _ _ _ (regions_in c.make_room.new.self) _ _
          (subst (λ (x : MarkedTables). AreJoining c.args.queue c.args.tables.now.tables (regions_in c.args.self.now) c.args.marks
          (regions_in x) c.loop-slot.tables.tables (together c.loop-slot.slot-iterator.rest.items)) (sym c.make_room.ensures) at.0) _ _ (slot_parts _ _ _ c.loop-slot.number is at.1)
          (regions_in c.join_marked_slot.new.self) c.join_marked_slot.new.tables.tables c.in_ok-join_marked_slot.ensures.ok c.in_ok-join_marked_slot.ensures.left c.in_ok-join_marked_slot.ensures.few,
      subst (λ n. AreSlots n c.next.new.self.rest.items) (omega arith) (subst (AreSlots c.loop-slot.number) is at.1).1,
      omega (arith, ap length is, at.2),
      c.join_marked_slot.ensures.cleaned.0 ∙ ap (λ (x : MarkedTables). x.accessor.cleaned) c.make_room.ensures ∙ at.3,
      c.join_marked_slot.ensures.cleaned.1 ∙ at.4,
    )

pub returns-in_err-join_marked_slot : goal.returns-in_err-join_marked_slot
returns-in_err-join_marked_slot c =
    let at = c.loop-slot.invariant in
    let p = err_from_is_err_and c.from_residual-in_err-join_marked_slot.result c.from_residual-in_err-join_marked_slot.ensures.1 in
    rw (p.1, p.2) record {
      ok = λ _. tt;
      fault = joining_fault _ _ _ _ (regions_in c.make_room.new.self) _ _
          (subst (λ (x : MarkedTables). AreJoining c.args.queue c.args.tables.now.tables (regions_in c.args.self.now) c.args.marks
          (regions_in x) c.loop-slot.tables.tables (together c.loop-slot.slot-iterator.rest.items)) (sym c.make_room.ensures) at.0) _
          (parts_among _ _ _ (slot_parts _ _ _ c.loop-slot.number c.in-Some.ensures.steps.0 at.1)) _ c.in_err-join_marked_slot.ensures.fault;
      left = tt;
      few = tt;
      cleaned = (c.join_marked_slot.ensures.cleaned.0 ∙ ap (λ (x : MarkedTables). x.accessor.cleaned) c.make_room.ensures ∙ at.3, c.join_marked_slot.ensures.cleaned.1 ∙ at.4);
    }

pub returns : goal.returns
returns c =
    let at = c.loop-slot.invariant in
    let none = none_together _ (omega (arith, c.in-None.ensures.steps.0, c.loop-slot.slot-iterator.rest.ok.0)) in
    record { ok = all_joined _ _ _ _ _ _ _ at.0 none; fault = λ _. tt; left = all_taken _ _ _ _ at.0.taken none; few = at.0.few; cleaned = (at.3, at.4) }
