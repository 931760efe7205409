use Rattle.raft_accessor.proofs.Common.{refl, sym, ap, subst, ◌∙◌, arith, false≢true, Accessor, together, AreSlots}
use Rattle.raft_accessor.proofs.SlotLemmas.{drop-entries, drop-none, together-empty, slot-empty}
use Rattle.raft_accessor.proofs.accessor.MemTableAccessor.is_empty.Goals as goal

pub loop-slot-init : goal.loop-slot-init
loop-slot-init c = refl

pub loop-slot-preserved : goal.loop-slot-preserved
loop-slot-preserved c = c.loop-slot.invariant ∙ drop-entries c.deref-slot-items.result.now c.loop-slot.slot-index c.slot-item.result
    (omega (arith, c.loop-slot-test.true)) (sym c.slot-item.is ∙ c.is_empty.ensures.0 c.if-not-is_empty.false)

pub returns-then-not-is_empty : goal.returns-then-not-is_empty
returns-then-not-is_empty c =
    let slots = c.deref-slot-items.ensures.value in
    let none = ap together slots ∙ ap (λ (x : Accessor). x.tables) c.self.view_is in (
      (λ t. absurd (false≢true t)),
      (λ e. absurd (false≢true (sym c.if-not-is_empty.true
          ∙ c.is_empty.ensures.1 (c.slot-item.is ∙ slot-empty c.deref-slot-items.result.now c.loop-slot.slot-index c.slot-item.result
          (subst (AreSlots 0) (sym slots) c.self.invariant.slots) (none ∙ e) (omega (arith, c.loop-slot-test.true)))))),
    )

pub returns : goal.returns
returns c = (
  (λ t. sym (ap together c.deref-slot-items.ensures.value ∙ ap (λ (x : Accessor). x.tables) c.self.view_is)
      ∙ together-empty c.deref-slot-items.result.now (c.loop-slot.invariant ∙ drop-none c.deref-slot-items.result.now c.loop-slot.slot-index (omega (arith, c.loop-slot-test.false)))),
  (λ e. refl),
)
