use Rattle.raft_shared.proofs.Common.{length-set, ◌≡◌, ◌∷◌, [], ◌++◌, ◌+◌, drop, slice_index_or, append_assoc, append-nil, sym, ap, subst, ◌∙◌, arith, at_drop_more, drop_of_length-le, Slot, HaveShares}
use Rattle.raft_shared.proofs.SharedLemmas.{share-at, shares-listed}
use Rattle.raft_shared.proofs.shared_accessor.divide_among_slots.Goals as goal

pub loop-id-init : goal.loop-id-init
loop-id-init c = ([], c.cleaned_regions-ids.ensures ∙ c.divide_tables.ensures.cleaned, c.in_ok-slots.ensures.shares, c.in_ok-slots.ensures.all)

pub push_cleaned-requires : goal.push_cleaned-requires
push_cleaned-requires c =
    let at = c.loop-id.invariant in
    let share = share-at c.args.core.tables at.0 0 c.loop-id.slots.items c.slot_of.result c.index_mut.result.now at.2 (omega (arith, c.slot_of.ensures.bound, at.3)) in
    omega (arith, c.slot_of.ensures.value, share.number, ap (λ (s : Slot). s.number) c.index_mut.ensures.value)

pub loop-id-preserved : goal.loop-id-preserved
loop-id-preserved c =
    let at = c.loop-id.invariant in
    let ids = c.cleaned_regions-ids.result.now in
    let id = slice_index_or ids c.loop-id.id-index 0 in
    let rest = drop (c.loop-id.id-index + 1) ids in
    let one : drop c.loop-id.id-index ids ≡ id ∷ rest = at_drop_more (λ l. l) ids c.loop-id.id-index 0 c.loop-id-test.true in (
      at.0 ++ id ∷ [],
      append_assoc at.0 (id ∷ []) rest ∙ ap (λ l. at.0 ++ l) (sym one) ∙ at.1,
      shares-listed c.args.core.tables at.0 id 0 c.loop-id.slots.items c.slot_of.result c.index_mut.result.now c.push_cleaned.new.self at.2
          (omega (arith, c.slot_of.ensures.bound, at.3)) (omega (arith, c.slot_of.ensures.value)) c.index_mut.ensures.value c.in_ok-push_cleaned.ensures.ok,
      length-set c.loop-id.slots.items c.slot_of.result c.push_cleaned.new.self ∙ at.3,
    )

pub returns-clause-shares : goal.returns-clause-shares
returns-clause-shares c =
    let at = c.loop-id.invariant in
    let ids = c.cleaned_regions-ids.result.now in
    let all = sym (append-nil at.0) ∙ ap (λ l. at.0 ++ l) (sym (drop_of_length-le ids {i = c.loop-id.id-index} (omega (arith, c.loop-id-test.false)))) ∙ at.1 in
    subst (λ l. HaveShares c.args.core.tables l 0 c.loop-id.slots.items) all at.2

pub returns-clause-all : goal.returns-clause-all
returns-clause-all c = c.loop-id.invariant.3
