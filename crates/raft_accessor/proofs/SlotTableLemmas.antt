-- The tables of one slot taken out, and the counts after that.
use Rattle.raft_accessor.proofs.Common.{get_or-set_same, Append, Rewrite, ◌≡◌, ◌<◌, ◌≤◌, ◌+◌, ◌-◌, ℕ, suc, zero, nat_eq, List, [], ◌∷◌, length, map, slice_index_or, slice_set, sym, ap, subst, ◌∙◌, arith, inl, inr, nat_cmp, IsDistinct}
use Rattle.raft_accessor.proofs.Common.{keys_of, map-append, LogQueue, Tables, Counts, live, Table, live_of, Accessor, slot_of, live_in_all, accessor_shown, IsAccessorKept, slot_entries, together, IsSlot, AreSlots, IsSlotTaken}
use Rattle.raft_accessor.proofs.Common.{with_all_deleted}
use Rattle.std.specs.FinMap as finite
use Rattle.raft_accessor.specs.declared.accessor.MemTableAccessor.TheInside.{Inside}
use Rattle.raft_accessor.proofs.LiveLemmas.{live-none, live-total}
use Rattle.raft_accessor.proofs.MapLemmas.{none_some}
use Rattle.raft_accessor.proofs.SlotLemmas.{same_slot, get-together, other-slot, own-at, set-at, length-set}
use Rattle.raft_accessor.proofs.TotalSums.{added, added-append, live-added, tables_of, slots-live, walked-total}

empty-slot : (i : ℕ) → IsSlot {V = Table} i finite.empty
empty-slot i = λ id h. finite.get-empty nat_cmp id

taken : (ms : List Tables) (i : ℕ) (m : Tables) → AreSlots 0 ms → i < length ms → m ≡ slice_index_or ms i m → IsSlotTaken i (together ms) (together (slice_set ms i finite.empty)) m
taken ms i m s lt lent =
    let after : List Tables = slice_set ms i finite.empty in
    let fits : length after ≡ length ms = length-set ms i finite.empty in
    record {
      taken = λ id e. ap (λ x. finite.get x id) lent ∙ ap (λ j. finite.get (slice_index_or ms j m) id) (sym e) ∙ sym (get-together ms id m s (omega (arith, lt, e)));
      own = λ id t g. elim (same_slot (slot_of id) i) [ inl e ↦ e | inr ne ↦ absurd (none_some (sym (own-at ms i m s lt id ne) ∙ ap (λ x. finite.get x id) (sym lent) ∙ g)) ];
      gone = λ id e. get-together after id m (set-at ms i finite.empty s (empty-slot i)) (omega (arith, lt, e, fits))
          ∙ ap (λ j. finite.get (slice_index_or after j m) id) e ∙ ap (λ x. finite.get x id) (get_or-set_same ms i finite.empty m lt)
          ∙ finite.get-empty nat_cmp id;
      others = λ id ne. other-slot ms id i finite.empty s (empty-slot i) ne;
    }

-- ---- counts

first : (f : Table → ℕ) (m : Tables) (ms : List Tables) → added f (tables_of (m ∷ ms)) ≡ added f (finite.values m) + added f (tables_of ms)
first f m ms = ap (added f) (map-append (λ (e : ℕ × Table). e.1) (finite.entries m) (slot_entries ms)) ∙ added-append f (finite.values m) (tables_of ms)

-- one slot in front of others
pub live-front : (q : LogQueue) (k : ℕ) (m : Tables) (ms : List Tables) → AreSlots k (m ∷ ms) → live_in_all q (together (m ∷ ms)) ≡ live_in_all q m + live_in_all q (together ms)
live-front q k m ms s = omega (arith, slots-live q k (m ∷ ms) s, slots-live q (suc k) ms s.1, first (live_of q) m ms, live-added q m)

-- other tables in one slot
set-added : (f : Table → ℕ) (ms : List Tables) (i : ℕ) (m d : Tables) → i < length ms → added f (tables_of (slice_set ms i m)) + added f (finite.values (slice_index_or ms i d)) ≡ added f (tables_of ms) + added f (finite.values m)
set-added f [] i m d lt = absurd (omega (arith, lt))
set-added f (n ∷ ms) zero m d lt = omega (arith, first f m ms, first f n ms)
set-added f (n ∷ ms) (suc i) m d lt = omega (arith, first f n (slice_set ms i m), first f n ms, set-added f ms i m d (omega (arith, lt)))

taken-live : (q : LogQueue) (ms : List Tables) (i : ℕ) (m : Tables) → AreSlots 0 ms → i < length ms → m ≡ slice_index_or ms i m → live_in_all q (together (slice_set ms i finite.empty)) + live_in_all q m ≡ live_in_all q (together ms)
taken-live q ms i m s lt lent =
    omega (
      arith,
      slots-live q 0 ms s,
      slots-live q 0 (slice_set ms i finite.empty) (set-at ms i finite.empty s (empty-slot i)),
      set-added (live_of q) ms i finite.empty m lt,
      ap (λ x. added (live_of q) (finite.values x)) lent,
      live-added q m,
      live-added q finite.empty,
      live-none q,
    )

-- the tables that a walk of a hash map meets
pub walked-live : (q : LogQueue) (es : List (ℕ × Table)) (m : Tables) (ts : List Table) → IsDistinct nat_eq (keys_of es) → finite.from_entries es ≡ m → ts ≡ map (λ e. e.1) es → added (live_of q) ts ≡ live_in_all q m
walked-live q es m ts once is all = walked-total (live_of q) es m ts once is all ∙ sym (live-total q m)

-- none of the tables that a walk met is left on the counts
pub all-deleted : (old new : Counts) (m : Tables) (ts rest : List Table) → ((q : LogQueue) → added (live_of q) ts ≡ live_in_all q m) → rest ≡ []
    → new.append + added (live_of Append) ts ≡ old.append + added (live_of Append) rest → new.written ≡ old.written → new.deleted + added (live_of Rewrite) rest ≡ old.deleted + added (live_of Rewrite) ts → new ≡ with_all_deleted m old
all-deleted old new m ts rest all none append written deleted =
    let a : new.append ≡ old.append - live_in_all Append m = omega (arith, append, all Append, ap (added (live_of Append)) none) in
    let d : new.deleted ≡ old.deleted + live_in_all Rewrite m = omega (arith, deleted, all Rewrite, ap (added (live_of Rewrite)) none) in
    ap (λ n. record new { append = n }) a ∙ ap (λ n. record new { append = old.append - live_in_all Append m; written = n }) written ∙ ap (λ n. record old { append = old.append - live_in_all Append m; deleted = n }) d

-- ---- the accessor

-- one slot was lent, and its tables are gone
pub record IsEmptied (a b : Inside) (i : ℕ) (m : Tables) : Type 0 where
  pub bound : i < 128
  pub lent : m ≡ slice_index_or a.slots.items i m
  pub slots : b.slots.items ≡ slice_set a.slots.items i finite.empty
  pub counts : b.stats ≡ with_all_deleted m a.stats

pub slot-counted-all : (a : Inside) (i : ℕ) (m : Tables) → IsAccessorKept a → i < 128 → m ≡ slice_index_or a.slots.items i m → (q : LogQueue) → live_in_all q m ≤ live q a.stats
slot-counted-all a i m kept lt lent q = omega (arith, kept.counted q, taken-live q a.slots.items i m kept.slots (omega (arith, kept.all, lt)) lent)

pub shown-emptied : (a b : Inside) (r : Accessor) (i : ℕ) (m : Tables) → IsAccessorKept a → accessor_shown a ≡ r → IsEmptied a b i m → IsSlotTaken i r.tables (together b.slots.items) m
shown-emptied a b r i m kept is em =
    subst (λ (x : Accessor). IsSlotTaken i x.tables (together b.slots.items) m) is
    (subst (λ ms. IsSlotTaken i (together a.slots.items) (together ms) m) (sym em.slots) (taken a.slots.items i m kept.slots (omega (arith, kept.all, em.bound)) em.lent))

pub kept-emptied : (a b : Inside) (i : ℕ) (m : Tables) → IsAccessorKept a → IsEmptied a b i m → IsAccessorKept b
kept-emptied a b i m kept em = record {
  slots = subst (AreSlots 0) (sym em.slots) (set-at a.slots.items i finite.empty kept.slots (empty-slot i));
  all = ap length em.slots ∙ length-set a.slots.items i finite.empty ∙ kept.all;
  counted = λ q. ap (live q) em.counts ∙ left q ∙ ap (λ ms. live_in_all q (together ms)) (sym em.slots);
}
  where
    left : (q : LogQueue) → live q (with_all_deleted m a.stats) ≡ live_in_all q (together (slice_set a.slots.items i finite.empty))
    left Append = omega (arith, kept.counted Append, taken-live Append a.slots.items i m kept.slots (omega (arith, kept.all, em.bound)) em.lent)
    left Rewrite = omega (arith, kept.counted Rewrite, taken-live Rewrite a.slots.items i m kept.slots (omega (arith, kept.all, em.bound)) em.lent)
