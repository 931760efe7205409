use Rattle.raft_accessor.proofs.Common.{[], ◌++◌, append-nil, refl, sym, ap, ◌∙◌, arith, nil_from_length, err_from_is_err_and, Accessor, slot_entries, with_neighbor, IsFaultBeside}
use Rattle.std.specs.FinMap as finite
use Rattle.raft_accessor.proofs.MergeLemmas.{slots-apart, slots-are, more-slots, refuses-slot, left-slot, others-slot, merge-refused, all-merged}
use Rattle.raft_accessor.proofs.accessor.MemTableAccessor.merge_neighbors.Goals as goal

pub loop-slot-init : goal.loop-slot-init
loop-slot-init c = ([], refl, λ q. refl, refl)

pub loop-slot-preserved : goal.loop-slot-preserved
loop-slot-preserved c =
    let at = c.loop-slot.invariant in
    let more = more-slots (with_neighbor c.args.kind) c.args.self.now.tables c.loop-slot.self.tables c.merge_slot.new.self.tables _ at.0 _ _ _ c.in-Some.ensures.steps.0 at.1
    (slots-apart at.0 _ _ (at.1 ∙ c.into_iter-slot-iterator.ensures.into_iter_gives.0) c.rhs.invariant.slots) at.2 c.in_ok-merge_slot.ensures.ok in
    (more.0, more.1, more.2, c.merge_slot.ensures.cleaned ∙ at.3)

pub returns-in_err-merge_slot : goal.returns-in_err-merge_slot
returns-in_err-merge_slot c =
    let p = err_from_is_err_and c.from_residual.result c.from_residual.ensures.1 in
    let at = c.loop-slot.invariant in
    let m = c.loop-slot.self.tables in
    let new = c.merge_slot.new.self in
    let is = c.in-Some.ensures.steps.0 in
    let refused = c.in_err-merge_slot.ensures in
    let split = at.1 ∙ c.into_iter-slot-iterator.ensures.into_iter_gives.0 in
    rw (p.1, p.2) (merge-refused c.args.kind c.args.self.now new m c.args.rhs.tables (slot_entries at.0) _ (slots-apart at.0 _ _ split c.rhs.invariant.slots) at.2
    (slots-are at.0 _ _ c.args.rhs.tables split (ap (λ (x : Accessor). x.tables) c.rhs.view_is)) _ _ (refuses-slot (IsFaultBeside c.args.kind new.counts) m _ _ _ _ is refused.fault)
    (λ k. left-slot (with_neighbor c.args.kind) m new.tables _ _ _ is (refused.err k)) (others-slot (with_neighbor c.args.kind) m new.tables _ _ _ is refused.others) (c.merge_slot.ensures.cleaned ∙ at.3))

pub returns : goal.returns
returns c =
    let at = c.loop-slot.invariant in
    let none = nil_from_length c.loop-slot.slot-iterator.rest.items (omega (arith, c.in-None.ensures.steps.0, c.loop-slot.slot-iterator.rest.ok.0)) in
    all-merged c.args.kind c.args.self.now c.loop-slot.self c.args.rhs.tables (slot_entries at.0) at.2
    (ap (λ es. finite.from_entries es) (sym (append-nil (slot_entries at.0)) ∙ ap (λ ms. slot_entries at.0 ++ slot_entries ms) (sym none)) ∙ slots-are at.0 _ _
    c.args.rhs.tables (at.1 ∙ c.into_iter-slot-iterator.ensures.into_iter_gives.0) (ap (λ (x : Accessor). x.tables) c.rhs.view_is)) at.3
