-- Numbers of the values of a map, added in any order.
use Rattle.raft_accessor.proofs.Common.{length-map, ◌≡◌, ◌+◌, ℕ, nat_eq, List, [], ◌∷◌, ◌++◌, length, map, IsPermutation, refl, sym, ap, ◌∙◌, arith, nat_cmp, nat_cmp_total, IsDistinct, keys_of, sum_by-cons, sum_by-IsPermutation, total_of}
use Rattle.raft_accessor.proofs.Common.{total, found, total-insert, total-none, total-ones, LogQueue, live_of, Tables, live_in_all, ◌<◌, ◌≤◌, drop, slice_index_or, Table, slot_entries, together, AreSlots}
use Rattle.std.specs.List.{sum_by}
use Rattle.std.specs.FinMap as finite
use Rattle.raft_accessor.proofs.OrderLemmas.{not-there, together-permuted, together-permuted-from, drop-step}
use Rattle.raft_accessor.proofs.SlotLemmas.{drop-none}

module _ {X : Type 0} (f : X → ℕ) where
  -- the numbers of some values, together
  abbrev pub added : List X → ℕ
  added [] = 0
  added (x ∷ xs) = f x + added xs

  pub total-from : (es : List (ℕ × X)) → IsDistinct nat_eq (keys_of es) → total f (finite.from_entries {R = nat_cmp} es) ≡ added (map (λ e. e.1) es)
  unfolding IsDistinct
  total-from [] once = total-none f
  total-from (e ∷ es) once =
      omega (arith, total-insert f (finite.from_entries {R = nat_cmp} es) e.0 e.1, ap (found f) (finite.get-from_entries nat_cmp_total es e.0 ∙ not-there e.0 es once.0), total-from es once.1)

  -- the values that a walk of a hash map meets
  pub walked-total : (es : List (ℕ × X)) (m : finite.FinMap nat_cmp X) (xs : List X) → IsDistinct nat_eq (keys_of es) → finite.from_entries es ≡ m → xs ≡ map (λ e. e.1) es → added xs ≡ total f m
  walked-total es m xs once is all = ap added all ∙ sym (total-from es once) ∙ ap (total f) is

  added-entries : (es : List (ℕ × X)) → total_of f es ≡ added (map (λ e. e.1) es)
  added-entries [] = refl
  added-entries (e ∷ es) = ap (λ n. f e.1 + n) (added-entries es)

  pub added-append : (xs ys : List X) → added (xs ++ ys) ≡ added xs + added ys
  added-append [] ys = omega arith
  added-append (x ∷ xs) ys = omega (arith, added-append xs ys)

  pub total-values : (m : finite.FinMap nat_cmp X) → total f m ≡ added (finite.values m)
  unfolding total
  total-values m = added-entries (finite.entries m)

  added-sum : (xs : List X) → sum_by f xs ≡ added xs
  added-sum [] = refl
  added-sum (x ∷ xs) = sum_by-cons f x xs ∙ ap (λ n. f x + n) (added-sum xs)

  -- in another order
  pub added-permuted : (xs ys : List X) → IsPermutation xs ys → added xs ≡ added ys
  added-permuted xs ys p = sym (added-sum xs) ∙ sym (sum_by-IsPermutation f xs ys p) ∙ added-sum ys

ones : {X : Type 0} (xs : List X) → added (λ x. 1) xs ≡ length xs
ones [] = refl
ones (x ∷ xs) = omega (arith, ones xs)

-- how many keys the map of some entries has
pub len-from : {X : Type 0} (es : List (ℕ × X)) → IsDistinct nat_eq (keys_of es) → finite.len (finite.from_entries {R = nat_cmp} es) ≡ length es
len-from {X} es once = sym (total-ones (finite.from_entries {R = nat_cmp} es)) ∙ total-from (λ (x : X). 1) es once ∙ ones (map (λ e. e.1) es) ∙ length-map es (λ e. e.1)

-- what all tables have live in a queue
pub live-added : (q : LogQueue) (m : Tables) → live_in_all q m ≡ added (live_of q) (finite.values m)
unfolding live_in_all
live-added q m = added-sum (live_of q) (finite.values m)

-- ---- slots

-- the tables of some slots
abbrev pub tables_of : List Tables → List Table
tables_of slots = map (λ e. e.1) (slot_entries slots)

pub slots-all : (f : Table → ℕ) (ms : List Tables) → AreSlots 0 ms → added f (tables_of ms) ≡ total f (together ms)
slots-all f ms are = added-permuted f (tables_of ms) (finite.values (together ms)) (together-permuted ms are) ∙ sym (total-values f (together ms))

-- of slots from k on
pub slots-live : (q : LogQueue) (k : ℕ) (ms : List Tables) → AreSlots k ms → added (live_of q) (tables_of ms) ≡ live_in_all q (together ms)
slots-live q k ms are = added-permuted (live_of q) (tables_of ms) (finite.values (together ms)) (together-permuted-from k ms are) ∙ sym (live-added q (together ms))

pub slots-left : (f : Table → ℕ) (ms : List Tables) (i : ℕ) → length ms ≤ i → added f (tables_of (drop i ms)) ≡ 0
slots-left f ms i past = ap (λ es. added f (map (λ (e : ℕ × Table). e.1) es)) (drop-none ms i past)

-- one slot less is left
module _ (ms : List Tables) (i : ℕ) (d : Tables) (low : i < length ms) (is : d ≡ slice_index_or ms i d) where
  pub slot-less : (f : Table → ℕ) → added f (tables_of (drop i ms)) ≡ total f d + added f (tables_of (drop (i + 1) ms))
  slot-less f = omega (arith, ap (added f) (drop-step ms i (i + 1) d refl low is), added-append f (finite.values d) (tables_of (drop (i + 1) ms)), total-values f d)

  pub slot-less-live : (q : LogQueue) → added (live_of q) (tables_of (drop i ms)) ≡ live_in_all q d + added (live_of q) (tables_of (drop (i + 1) ms))
  slot-less-live q = omega (arith, ap (added (live_of q)) (drop-step ms i (i + 1) d refl low is), added-append (live_of q) (finite.values d) (tables_of (drop (i + 1) ms)), live-added q d)
