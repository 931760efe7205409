-- The values of all slots, in no set order.
use Rattle.raft_accessor.proofs.Common.{Less, Equal, Greater, at_drop_more, ◌≡◌, ◌≢◌, ◌<◌, ◌+◌, ℕ, suc, true, false, cond, nat_eq, List, [], ◌∷◌, ◌++◌, length, drop, map, Some, None, IsPermutation, refl, sym, ap, subst, ◌∙◌, arith, inl}
use Rattle.raft_accessor.proofs.Common.{inr, slice_index_or, append_assoc, nat_cmp, is_eq, nat_cmp_total, AllByRecursion, IsDistinct, option_or, find, put, is_sorted, by_order, keys_of, map-append, IsPermutation-refl, IsPermutation-trans}
use Rattle.raft_accessor.proofs.Common.{IsPermutation-cons, IsPermutation-append_comm, IsPermutation-append_left, IsPermutation-append_right, IsPermutation-map, find-below, first_of_both, second_of_both, slot_of, slot_entries, together}
use Rattle.raft_accessor.proofs.Common.{AreSlots, ◌≤◌, append-nil}
use lib.Dec.{T}
use Rattle.std.specs.FinMap as finite
use Rattle.raft_accessor.proofs.MapLemmas.{none_some, eq_self, entries-empty}
use Rattle.raft_accessor.proofs.RegionTablesLemmas.{same_test}
use Rattle.raft_accessor.proofs.SlotLemmas.{Map, find-both, find-later, same_slot, drop-none}

module _ {V : Type 0} where
  -- no key stands twice
  abbrev pub Once : List (ℕ × V) → Type 0
  Once [] = Unit {0}
  Once (e ∷ es) = (find nat_cmp e.0 es ≡ None) × Once es

  -- a new key is put at some place
  put-permuted : (k : ℕ) (t : V) (es : List (ℕ × V)) → find nat_cmp k es ≡ None → IsPermutation ((k, t) ∷ es) (put nat_cmp k t es)
  put-permuted k t [] h = IsPermutation-refl ((k, t) ∷ [])
  put-permuted k t (e ∷ es) h =
      elim (nat_cmp k e.0) as (λ r. nat_cmp k e.0 ≡ r → cond (is_eq r) (Some e.1) (find nat_cmp k es) ≡ None → IsPermutation ((k, t) ∷ e ∷ es) (by_order r ((k, t) ∷ e ∷ es) ((e.0, t) ∷ es) (e ∷ put nat_cmp k t es))) [
        | Less ↦ λ p h. IsPermutation-refl ((k, t) ∷ e ∷ es)
        | Equal ↦ λ p h. absurd (none_some (sym h))
        | Greater ↦ λ p h. IsPermutation-trans ((k, t) ∷ e ∷ es) (e ∷ (k, t) ∷ es) (e ∷ put nat_cmp k t es)
            (IsPermutation-append_left es ((k, t) ∷ e ∷ []) (e ∷ (k, t) ∷ []) (IsPermutation-append_comm ((k, t) ∷ []) (e ∷ [])))
            (IsPermutation-cons e ((k, t) ∷ es) (put nat_cmp k t es) (put-permuted k t es h))
      ] refl h

  -- the map of some entries has these entries
  pub entries-permuted : (es : List (ℕ × V)) → Once es → IsPermutation es (finite.entries (finite.from_entries {R = nat_cmp} es))
  entries-permuted [] h = subst (λ l. IsPermutation [] l) (sym (entries-empty finite.empty refl)) (IsPermutation-refl [])
  entries-permuted (e ∷ es) h =
      let m : Map V = finite.from_entries {R = nat_cmp} es in
      let none : find nat_cmp e.0 (finite.entries m) ≡ None = sym (finite.get-entries m e.0) ∙ finite.get-from_entries nat_cmp_total es e.0 ∙ h.0 in
      subst (λ l. IsPermutation (e ∷ es) l) (sym (finite.entries-insert nat_cmp_total m e.0 e.1))
      (IsPermutation-trans (e ∷ es) (e ∷ finite.entries m) (put nat_cmp e.0 e.1 (finite.entries m)) (IsPermutation-cons e es (finite.entries m) (entries-permuted es h.1)) (put-permuted e.0 e.1 (finite.entries m) none))

  -- ---- what no key stands twice in

  pub not-there : (k : ℕ) (es : List (ℕ × V)) → AllByRecursion (λ y. nat_eq k y ≡ false) (keys_of es) → find nat_cmp k es ≡ None
  not-there k [] h = refl
  not-there k (e ∷ es) h = ap (λ b. cond b (Some e.1) (find nat_cmp k es)) (same_test k e.0 ∙ h.0) ∙ not-there k es h.1

  pub once-distinct : (es : List (ℕ × V)) → IsDistinct nat_eq (keys_of es) → Once es
  unfolding IsDistinct
  once-distinct [] h = tt
  once-distinct (e ∷ es) h = (not-there e.0 es h.0, once-distinct es h.1)

  once-sorted : (es : List (ℕ × V)) → T (is_sorted nat_cmp es) → Once es
  once-sorted [] h = tt
  once-sorted (e ∷ es) h = (find-below nat_cmp_total e.0 es (first_of_both _ _ h), once-sorted es (second_of_both _ _ h))

  behind : (k : ℕ) (e : ℕ × V) (es : List (ℕ × V)) → find nat_cmp k (e ∷ es) ≡ None → find nat_cmp k es ≡ None
  behind k e es h = elim (is_eq (nat_cmp k e.0)) as (λ b. cond b (Some e.1) (find nat_cmp k es) ≡ None → find nat_cmp k es ≡ None) [ true ↦ λ h. absurd (none_some (sym h)) | false ↦ λ h. h ] h

  once-both : (xs ys : List (ℕ × V)) → Once xs → Once ys → ((k : ℕ) → find nat_cmp k xs ≢ None → find nat_cmp k ys ≡ None) → Once (xs ++ ys)
  once-both [] ys g h apart = h
  once-both (x ∷ xs) ys g h apart = (
    find-both x.0 xs ys ∙ ap (λ o. option_or o (find nat_cmp x.0 ys)) g.0 ∙ apart x.0 (λ e. none_some (sym e ∙ ap (λ b. cond b (Some x.1) (find nat_cmp x.0 xs)) (eq_self x.0))),
    once-both xs ys g.1 h (λ k f. apart k (λ e. f (behind k x xs e))),
  )

  pub once-slots : (k : ℕ) (ms : List (Map V)) → AreSlots k ms → Once (slot_entries ms)
  once-slots k [] s = tt
  once-slots k (m ∷ ms) s =
      once-both (finite.entries m) (slot_entries ms) (once-sorted (finite.entries m) (finite.entries_sorted m)) (once-slots (suc k) ms s.1) (λ q f. elim (same_slot (slot_of q) k) [
        | inl e ↦ find-later (suc k) ms q s.1 (omega (arith, e))
        | inr ne ↦ absurd (f (sym (finite.get-entries m q) ∙ s.0 q ne))
      ])

  -- the values of all slots, one slot behind the other, are those of the one map
  pub together-permuted-from : (k : ℕ) (ms : List (Map V)) → AreSlots k ms → IsPermutation (map (λ e. e.1) (slot_entries ms)) (finite.values (together ms))
  unfolding together
  together-permuted-from k ms s = IsPermutation-map (λ e. e.1) (slot_entries ms) (finite.entries (finite.from_entries {R = nat_cmp} (slot_entries ms))) (entries-permuted (slot_entries ms) (once-slots k ms s))

  pub together-permuted : (ms : List (Map V)) → AreSlots 0 ms → IsPermutation (map (λ e. e.1) (slot_entries ms)) (finite.values (together ms))
  together-permuted ms s = together-permuted-from 0 ms s

  -- ---- the values of a hash map

  pub values-permuted : (es : List (ℕ × V)) → IsDistinct nat_eq (keys_of es) → IsPermutation (map (λ e. e.1) es) (finite.values (finite.from_entries {R = nat_cmp} es))
  values-permuted es h = IsPermutation-map (λ e. e.1) es (finite.entries (finite.from_entries {R = nat_cmp} es)) (entries-permuted es (once-distinct es h))

  -- ---- slot by slot

  pub drop-step : (ms : List (Map V)) (i k : ℕ) (d : Map V) → k ≡ i + 1 → i < length ms → d ≡ slice_index_or ms i d → map (λ e. e.1) (slot_entries (drop i ms)) ≡ finite.values d ++ map (λ e. e.1) (slot_entries (drop k ms))
  drop-step ms i k d e lt is = subst (λ k. map (λ e. e.1) (slot_entries (drop i ms)) ≡ finite.values d ++ map (λ e. e.1) (slot_entries (drop k ms))) (sym e)
      (at_drop_more (λ (l : List (Map V)). map (λ (e : ℕ × V). e.1) (slot_entries l)) ms i d lt
      ∙ map-append (λ (e : ℕ × V). e.1) (finite.entries (slice_index_or ms i d)) (slot_entries (drop (i + 1) ms)) ∙ ap (λ m. finite.values m ++ map (λ e. e.1) (slot_entries (drop (i + 1) ms))) (sym is))

  -- the values of all slots were met
  pub all-met : (ms : List (Map V)) (i : ℕ) (met : List V) (m : Map V) → AreSlots 0 ms → together ms ≡ m → length ms ≤ i → IsPermutation (met ++ map (λ e. e.1)
      (slot_entries (drop i ms))) (map (λ e. e.1) (slot_entries ms)) → IsPermutation met (finite.values m)
  all-met ms i met m are is past h =
      subst (λ m. IsPermutation met (finite.values m)) is (IsPermutation-trans met (map (λ e. e.1) (slot_entries ms)) (finite.values (together ms))
      (subst (λ l. IsPermutation l (map (λ e. e.1) (slot_entries ms))) (ap (λ es. met ++ map (λ e. e.1) es) (drop-none ms i past) ∙ append-nil met) h) (together-permuted ms are))

  -- the values of one slot more
  pub pushed : (old new ts vs rest rest' all : List V) → new ≡ old ++ ts → IsPermutation ts vs → rest ≡ vs ++ rest' → IsPermutation (old ++ rest) all → IsPermutation (new ++ rest') all
  pushed old new ts vs rest rest' all e p r h =
      subst (λ l. IsPermutation (l ++ rest') all) (sym e)
      (IsPermutation-trans ((old ++ ts) ++ rest') ((old ++ vs) ++ rest') all
      (IsPermutation-append_left rest' (old ++ ts) (old ++ vs) (IsPermutation-append_right old ts vs p))
      (subst (λ l. IsPermutation l all) (sym (append_assoc old vs rest' ∙ ap (λ l. old ++ l) (sym r))) h))
