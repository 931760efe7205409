use Rattle.raft_shared.proofs.Common.{◌≡◌, ℕ, ◌∷◌, [], ◌++◌, ◌+◌, drop, map, slice_index_or, refl, sym, ap, subst, ◌∙◌, arith, at_drop_more, drop_of_length-le, Table}
use Rattle.raft_shared.proofs.SharedLemmas.{HasOnly, kept-all, only-ids, either-moved, only-moved, added-all}
use Rattle.raft_shared.proofs.shared_accessor.move_slot_into.Goals as goal

pub list_cleaned-requires : goal.list_cleaned-requires
list_cleaned-requires c = rw (c.number.ensures, c.cleaned_regions.ensures) c.holds_own_tables.ensures.cleaned

pub loop-id-init : goal.loop-id-init
loop-id-init c =
    let p = c.in_ok-push_ids.ensures.ok in
    let region : Table → ℕ = λ t. t.region_id in
    let all : c.deref-id-items.result.now ≡ map region p.0 = c.deref-id-items.ensures.value ∙ kept-all _ _ _ p.0 (λ f f' t b h. h.called.met.0) p.2 ∙ ap (λ l. l ++ map region p.0) c.new-ids.ensures.items in (
      c.in_ok-list_cleaned.ensures.ok ∙ ap (λ l. c.args.core.now.cleaned ++ l) c.cleaned_regions.ensures,
      subst (λ l. HasOnly l c.args.slot.now.content.tables) (sym all) (only-ids c.args.slot.now.content.tables p.0 (λ id t e. (c.holds_own_tables.ensures.tables id t e).own) p.1),
      λ q. refl,
    )

pub loop-id-preserved : goal.loop-id-preserved
loop-id-preserved c =
    let at = c.loop-id.invariant in
    let ids = c.deref-id-items.result.now in
    let id = slice_index_or ids c.loop-id.id-index 0 in
    let rest = drop (c.loop-id.id-index + 1) ids in
    let one : drop c.loop-id.id-index ids ≡ id ∷ rest = at_drop_more (λ l. l) ids c.loop-id.id-index 0 c.loop-id-test.true in
    let moved = c.in_ok-move_table.ensures in
    let slot = c.loop-id.slot.content.tables in (
      c.move_table.ensures.cleaned ∙ at.0,
      only-moved slot c.move_table.new.slot.content.tables id rest moved.taken (subst (λ l. HasOnly l slot) one at.1),
      λ q. either-moved slot c.loop-id.core.tables c.move_table.new.slot.content.tables c.move_table.new.core.tables id moved.taken moved.moved moved.nothing q ∙ at.2 q,
    )

pub returns-clause-tables : goal.returns-clause-tables
returns-clause-tables c =
    let at = c.loop-id.invariant in
    let ids = c.deref-id-items.result.now in
    let none : drop c.loop-id.id-index ids ≡ [] = drop_of_length-le ids {i = c.loop-id.id-index} (omega (arith, c.loop-id-test.false)) in
    added-all c.args.slot.now c.loop-id.slot.content.tables c.args.core.now.tables c.list_cleaned.new.core.tables c.loop-id.core.tables
    c.holds_own_tables.ensures c.in_ok-list_cleaned.ensures.none
    (λ id ne. c.in_ok-list_cleaned.ensures.others id (λ e. ne (e ∙ c.number.ensures)))
    (subst (λ l. HasOnly l c.loop-id.slot.content.tables) none at.1) at.2
