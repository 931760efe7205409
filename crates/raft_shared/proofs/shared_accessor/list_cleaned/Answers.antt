use Rattle.raft_shared.proofs.Common.{◌≡◌, ◌∷◌, [], ◌++◌, ◌+◌, drop, slice_index_or, append_assoc, refl, sym, ap, subst, ◌∙◌, AllByRecursion, at_drop_more, slot_of}
use Rattle.raft_shared.proofs.SharedLemmas.{none-removed, other-removed}
use Rattle.raft_shared.proofs.shared_accessor.list_cleaned.Goals as goal

pub loop-id-init : goal.loop-id-init
loop-id-init c = (refl, c.requires, λ id e. e, λ id ne. refl)

pub loop-id-preserved : goal.loop-id-preserved
loop-id-preserved c =
    let at = c.loop-id.invariant in
    let id = slice_index_or c.args.ids.now c.loop-id.id-index 0 in
    let rest = drop (c.loop-id.id-index + 1) c.args.ids.now in
    let one : drop c.loop-id.id-index c.args.ids.now ≡ id ∷ rest = at_drop_more (λ l. l) c.args.ids.now c.loop-id.id-index 0 c.loop-id-test.true in
    let own = subst (AllByRecursion (λ id. slot_of id ≡ c.args.number)) one at.1 in
    let gone = c.in_ok-remove.ensures.tables in (
      ap (λ l. l ++ rest) c.in_ok-remove.ensures.cleaned ∙ append_assoc c.loop-id.core.cleaned (id ∷ []) rest ∙ ap (λ l. c.loop-id.core.cleaned ++ l) (sym one) ∙ at.0,
      own.1,
      λ q e. none-removed c.loop-id.core.tables c.remove.new.self.tables id q gone (at.2 q e),
      λ q ne. other-removed c.loop-id.core.tables c.remove.new.self.tables id q gone (λ p. ne (ap slot_of p ∙ own.0)) ∙ at.3 q ne,
    )
