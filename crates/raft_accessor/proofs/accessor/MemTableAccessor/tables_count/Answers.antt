use Rattle.std.proofs.Common.{◌≡◌, refl, sym, ap, subst, length, map, drop, ◌+◌, ◌∙◌, arith}
use Rattle.std.specs.FinMap as finite
use Rattle.raft_table.specs.Table.{Table}
use Rattle.raft_history.proofs.TotalLemmas.{total-ones}
use Rattle.raft_accessor.specs.Accessor.{Accessor}
use Rattle.raft_accessor.specs.Slots.{slot_entries, together, AreSlots}
use Rattle.raft_accessor.proofs.OrderLemmas.{together-permuted, drop-step}
use Rattle.raft_accessor.proofs.SlotLemmas.{drop-none}
use Rattle.raft_accessor.proofs.TotalSums.{added, added-append, added-permuted, total-values}
use Rattle.raft_accessor.proofs.accessor.MemTableAccessor.tables_count.Goals as goal

pub loop-slot-init : goal.loop-slot-init
loop-slot-init c = (omega arith, omega arith, ap length c.deref-slot-items.ensures.value ∙ c.self.invariant.all, omega arith)

pub loop-slot-preserved : goal.loop-slot-preserved
loop-slot-preserved c =
    let ms = c.deref-slot-items.result.now in (
      omega (
        arith,
        c.loop-slot.invariant.0,
        c.len.ensures,
        total-ones c.slot-item.result,
        total-values (λ (t : Table). 1) c.slot-item.result,
        ap (added (λ (t : Table). 1)) (drop-step ms c.loop-slot.slot-index _ c.slot-item.result refl (omega (arith, c.loop-slot-test.true)) c.slot-item.is),
        added-append (λ (t : Table). 1) (finite.values c.slot-item.result) (map (λ e. e.1) (slot_entries (drop (c.loop-slot.slot-index + 1) ms))),
      ),
      omega (arith, c.loop-slot.invariant.1),
      c.loop-slot.invariant.2,
      omega (arith, c.loop-slot-test.true, c.loop-slot.invariant.2),
    )

pub overflow_add-count : goal.overflow_add-count
overflow_add-count c = omega (arith, c.loop-slot.invariant.1, c.loop-slot.invariant.2, c.loop-slot-test.true)

pub returns-clause-value : goal.returns-clause-value
returns-clause-value c =
    let slots = c.deref-slot-items.result.now in
    let m : together slots ≡ c.args.self.now.tables = ap together c.deref-slot-items.ensures.value ∙ ap (λ (x : Accessor). x.tables) c.self.view_is in
    omega (
      arith,
      c.loop-slot.invariant.0,
      ap (λ es. added (λ (t : Table). 1) (map (λ e. e.1) es)) (drop-none slots c.loop-slot.slot-index (omega (arith, c.loop-slot-test.false))),
      added-permuted (λ (t : Table). 1) (map (λ e. e.1) (slot_entries slots)) (finite.values (together slots)) (together-permuted slots (subst (AreSlots 0) (sym c.deref-slot-items.ensures.value) c.self.invariant.slots)),
      total-values (λ (t : Table). 1) (together slots),
      total-ones (together slots),
      ap finite.len m,
    )

pub returns-clause-few : goal.returns-clause-few
returns-clause-few c = omega (arith, c.loop-slot.invariant.1, c.loop-slot.invariant.3)
