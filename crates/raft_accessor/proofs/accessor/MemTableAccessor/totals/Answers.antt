use Rattle.raft_accessor.proofs.Common.{Append, Rewrite, ◌≡◌, ◌<◌, ◌≤◌, ℕ, length, sym, ap, subst, ◌∙◌, arith, LogQueue, live, Table, live_of, total, Accessor, live_in_all, together, AreSlots}
use Rattle.std.specs.FinMap as finite
use Rattle.raft_accessor.proofs.TotalSums.{slots-all, slots-live, slots-left, slot-less, slot-less-live}
use Rattle.raft_accessor.proofs.accessor.MemTableAccessor.totals.Goals as goal

pub loop-slot-init : goal.loop-slot-init
loop-slot-init c =
    let slots = c.deref-slot-items.result.now in
    let are = subst (AreSlots 0) (sym c.deref-slot-items.ensures.value) c.self.invariant.slots in
    let one = λ (q : LogQueue). slots-live q 0 slots are
    ∙ sym (subst (λ s. live q c.self.inside.stats ≡ live_in_all q (together s)) (sym c.deref-slot-items.ensures.value)
    (c.self.invariant.counted q)) in
    (omega arith, omega arith, omega arith, omega (arith, one Append, one Rewrite, c.live_entries.ensures, c.live_entries-2.ensures))

pub loop-slot-preserved : goal.loop-slot-preserved
loop-slot-preserved c =
    let slots = c.deref-slot-items.result.now in
    let slot = c.slot-item.result in
    let i = c.loop-slot.slot-index in
    let low : i < length slots = omega (arith, c.loop-slot-test.true) in
    let keys = slot-less slots i slot low c.slot-item.is (λ (t : Table). finite.len t.keys) in
    let live = slot-less-live slots i slot low c.slot-item.is in
    let entries = slot-less slots i slot low c.slot-item.is (λ (t : Table). length t.entries) in (
      omega (arith, c.loop-slot.invariant.0, entries, c.entries_count-entries.ensures.entries),
      omega (arith, c.loop-slot.invariant.1, keys, live Append, live Rewrite, c.entries_count-entries.ensures.others),
      omega (arith, c.loop-slot.invariant.2, keys),
      c.loop-slot.invariant.3,
    )

pub overflow_add-entries : goal.overflow_add-entries
overflow_add-entries c =
    let slots = c.deref-slot-items.result.now in
    let slot = c.slot-item.result in
    let i = c.loop-slot.slot-index in
    let low : i < length slots = omega (arith, c.loop-slot-test.true) in
    let keys = slot-less slots i slot low c.slot-item.is (λ (t : Table). finite.len t.keys) in
    let live = slot-less-live slots i slot low c.slot-item.is in
    let at = c.loop-slot.invariant in
    omega (arith, at.1, at.2, at.3, keys, live Append, live Rewrite, c.entries_count-entries.ensures.others)

pub returns-clause-entries : goal.returns-clause-entries
returns-clause-entries c =
    let slots = c.deref-slot-items.result.now in
    let are = subst (AreSlots 0) (sym c.deref-slot-items.ensures.value) c.self.invariant.slots in
    let m : together slots ≡ c.args.self.now.tables = ap together c.deref-slot-items.ensures.value ∙ ap (λ (x : Accessor). x.tables) c.self.view_is in
    let past : length slots ≤ c.loop-slot.slot-index = omega (arith, c.loop-slot-test.false) in
    let entries = λ (t : Table). length t.entries in
    omega (arith, c.loop-slot.invariant.0, slots-left entries slots c.loop-slot.slot-index past, slots-all entries slots are, ap (total entries) m)

pub returns-clause-keys : goal.returns-clause-keys
returns-clause-keys c =
    let slots = c.deref-slot-items.result.now in
    let are = subst (AreSlots 0) (sym c.deref-slot-items.ensures.value) c.self.invariant.slots in
    let m : together slots ≡ c.args.self.now.tables = ap together c.deref-slot-items.ensures.value ∙ ap (λ (x : Accessor). x.tables) c.self.view_is in
    let past : length slots ≤ c.loop-slot.slot-index = omega (arith, c.loop-slot-test.false) in
    let keys = λ (t : Table). finite.len t.keys in
    let none = λ (f : Table → ℕ). slots-left f slots c.loop-slot.slot-index past in
    omega (arith, c.loop-slot.invariant.1, c.loop-slot.invariant.3, none keys, none (live_of Append), none (live_of Rewrite), slots-all keys slots are, ap (total keys) m)
