use Rattle.raft_contexts.proofs.Common.{◌≡◌, length, refl, sym, ap, subst, ◌∙◌, arith, err_from_is_err_and, other, Accessor, live_in_all, together, AreSlots, implied_marks, regions_in}
use Rattle.raft_contexts.proofs.JoiningLemmas.{AreJoining, all_joined, implied_joining_none, slot_alone, slot_fault, slot_step}
use Rattle.raft_contexts.proofs.PartLemmas.{no_slots_implied, slot_live, slot_parts}
use Rattle.raft_contexts.proofs.marked_tables.MarkedTables.join_unmarked.Goals as goal

pub loop-slot-init : goal.loop-slot-init
loop-slot-init c =
    let all = c.into_iter-slot-iterator.ensures.into_iter_gives.0 in (
      implied_joining_none c.args.queue c.args.tables.tables _ (regions_in c.args.self.now) (ap together all ∙ c.into_slots-slot-items.ensures.tables) c.requires.older c.requires.newer,
      subst (AreSlots 0) (sym all) c.into_slots-slot-items.ensures.slots,
      omega (arith, ap length all, c.into_slots-slot-items.ensures.all),
      refl,
    )

pub make_room-requires : goal.make_room-requires
make_room-requires c = omega (arith, ap length c.in-Some.ensures.steps.0, c.loop-slot.invariant.2)

pub join_unmarked_slot-requires-clause-older : goal.join_unmarked_slot-requires-clause-older
join_unmarked_slot-requires-clause-older c = subst (λ (x : Accessor). live_in_all (other c.args.queue) x.tables ≡ 0) (sym c.make_room.ensures) c.loop-slot.invariant.0.alone

pub join_unmarked_slot-requires-clause-newer : goal.join_unmarked_slot-requires-clause-newer
join_unmarked_slot-requires-clause-newer c =
    let at = c.loop-slot.invariant in
    let is = c.in-Some.ensures.steps.0 in
    slot_alone _ _ _ _ _ _ _ (slot_parts _ _ _ _ is at.1) (slot_live _ _ _ _ is at.1) at.0

pub loop-slot-preserved : goal.loop-slot-preserved
loop-slot-preserved c =
    let at = c.loop-slot.invariant in
    let is = c.in-Some.ensures.steps.0 in
    let rest = together c.loop-slot.slot-iterator.rest.items in (
      slot_step _ _ _ _ _ _ _ (slot_parts _ _ _ c.loop-slot.number is at.1) (slot_live _ _ _ c.loop-slot.number is at.1)
          (subst (λ (x : Accessor). AreJoining c.args.queue c.args.tables.tables (regions_in c.args.self.now) (implied_marks c.args.tables.tables) (regions_in (record { accessor = x; marks = c.loop-slot.self.marks })) rest
          (implied_marks rest))
          (sym c.make_room.ensures) at.0)
          (regions_in c.join_unmarked_slot.new.self) c.in_ok-join_unmarked_slot.ensures.ok c.in_ok-join_unmarked_slot.ensures.few,
      subst (λ n. AreSlots n c.next.new.self.rest.items) (omega arith) (subst (AreSlots c.loop-slot.number) is at.1).1,
      omega (arith, ap length is, at.2),
      c.join_unmarked_slot.ensures.cleaned ∙ ap (λ (x : Accessor). x.cleaned) c.make_room.ensures ∙ at.3,
    )

pub returns-in_err-join_unmarked_slot-clause-fault : goal.returns-in_err-join_unmarked_slot-clause-fault
returns-in_err-join_unmarked_slot-clause-fault c =
    let at = c.loop-slot.invariant in
    let is = c.in-Some.ensures.steps.0 in
    let p = err_from_is_err_and c.from_residual-in_err-join_unmarked_slot.result c.from_residual-in_err-join_unmarked_slot.ensures.1 in
    let rest = together c.loop-slot.slot-iterator.rest.items in
    rw (p.1, p.2) (slot_fault _ _ _ _ _ _ _ (slot_parts _ _ _ c.loop-slot.number is at.1) (slot_live _ _ _ c.loop-slot.number is at.1)
    (subst (λ (x : Accessor). AreJoining c.args.queue c.args.tables.tables (regions_in c.args.self.now) (implied_marks c.args.tables.tables) (regions_in (record { accessor = x; marks = c.loop-slot.self.marks })) rest (implied_marks rest))
    (sym c.make_room.ensures) at.0) _ c.in_err-join_unmarked_slot.ensures.fault)

pub returns-clause-ok : goal.returns-clause-ok
returns-clause-ok c = all_joined _ _ _ _ _ _ _ c.loop-slot.invariant.0 (no_slots_implied _ (omega (arith, c.in-None.ensures.steps.0, c.loop-slot.slot-iterator.rest.ok.0)))
