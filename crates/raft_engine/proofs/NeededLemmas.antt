-- The least number of a file that tables need.
use Rattle.raft_engine.proofs.Common.{◌≡◌, ℕ, ◌+◌, ◌≤◌, Bool, true, false, cond, eqb, ltb, List, [], ◌∷◌, map, length, Option, Some, None, IsPermutation, refl, sym, ap, ◌∙◌, subst, arith, eq-eqb, nat_tests, All-from_recursion, recursion_from_All, All-permutation}
use Rattle.raft_engine.proofs.Common.{IsPermutation-sym, Less, Equal, Greater, slice_cmp, unsigned_tied, below_all, AllByRecursion, nat_cmp, eq_by_cmp, is_eq, is_lt, LogQueue, Append, Rewrite, first_of_both, second_of_both, Stored, least_of, table_of, Table, placed_in, Tables}
use Rattle.raft_engine.proofs.Common.{AreLeastFrom, IsLeastNeeded, least_among, lowered}
use lib.Dec.{T}
use Rattle.std.specs.FinMap as finite
use Rattle.std.specs.FinMap.Entries.{find, is_sorted}

-- ---- the least among tables

-- a table's least file of the queue is at a number or above it
abbrev NeedsFrom : LogQueue → ℕ → Table → Type 0
NeedsFrom queue n t = (seq : ℕ) → least_of queue t ≡ Some seq → n ≤ seq

lowered_low : (n : ℕ) (o : Option ℕ) → lowered n o ≤ n
lowered_low n None = omega arith
lowered_low n (Some seq) = omega arith

lowered_at : (n seq : ℕ) (o : Option ℕ) → o ≡ Some seq → lowered n o ≤ seq
lowered_at n seq None e = absurd cc
lowered_at n seq (Some m) e = let same : m ≡ seq = cc in omega (arith, same)

lowered_high : (m n : ℕ) (o : Option ℕ) → m ≤ n → ((seq : ℕ) → o ≡ Some seq → m ≤ seq) → m ≤ lowered n o
lowered_high m n None low all = low
lowered_high m n (Some seq) low all = let less = all seq refl in omega (arith, low, less)

least_low : (queue : LogQueue) (n : ℕ) (ts : List Table) → least_among queue n ts ≤ n
least_low queue n [] = omega arith
least_low queue n (t ∷ ts) = let a = least_low queue (lowered n (least_of queue t)) ts in let b = lowered_low n (least_of queue t) in omega (arith, a, b)

least_each : (queue : LogQueue) (n : ℕ) (ts : List Table) → AllByRecursion (NeedsFrom queue (least_among queue n ts)) ts
least_each queue n [] = tt
least_each queue n (t ∷ ts) =
    ((λ seq e. let a = least_low queue (lowered n (least_of queue t)) ts in let b = lowered_at n seq (least_of queue t) e in omega (arith, a, b)), least_each queue (lowered n (least_of queue t)) ts)

least_high : (queue : LogQueue) (m n : ℕ) (ts : List Table) → m ≤ n → AllByRecursion (NeedsFrom queue m) ts → m ≤ least_among queue n ts
least_high queue m n [] low all = low
least_high queue m n (t ∷ ts) low all = least_high queue m (lowered n (least_of queue t)) ts (lowered_high m n (least_of queue t) low all.0) all.1

-- ---- the tables of all regions

tied : (a b : ℕ) → eq_by_cmp nat_cmp a b ≡ eqb a b
tied a b = unsigned_tied a b

-- each table is found under its region
each_found : {X : Type 0} (es : List (ℕ × X)) → T (is_sorted nat_cmp es) → AllByRecursion (λ e. find nat_cmp e.0 es ≡ Some e.1) es
each_found [] h = tt
each_found {X} (e ∷ es) h = (rw (tied e.0 e.0, eq-eqb e.0 e.0 refl) refl, later es (first_of_both _ _ h) (each_found es (second_of_both _ _ h)))
  where
    apart : (a b : ℕ) → T (is_lt (nat_cmp a b)) → eqb b a ≡ false
    apart a b t = go (ltb a b) refl (eqb a b) refl t
      where
        go : (l : Bool) → ltb a b ≡ l → (q : Bool) → eqb a b ≡ q → T (is_lt (cond l Less (cond q Equal Greater))) → eqb b a ≡ false
        go true x q y t = grind (arith, nat_tests)
        go false x true y t = absurd t
        go false x false y t = absurd t

    later : (fs : List (ℕ × X)) → T (below_all nat_cmp e.0 fs) → AllByRecursion (λ x. find nat_cmp x.0 es ≡ Some x.1) fs → AllByRecursion (λ x. find nat_cmp x.0 (e ∷ es) ≡ Some x.1) fs
    later [] b k = tt
    later (f ∷ fs) b k = (rw (tied f.0 e.0, apart e.0 f.0 (first_of_both _ _ b)) k.0, later fs (second_of_both _ _ b) k.1)

some_is : {X : Type 0} (a b : X) → Some a ≡ Some b → a ≡ b
some_is a b e = cc

-- what each table has, the table of a region has
found_in : (P : Table → Type 0) (es : List (ℕ × Table)) (r : ℕ) (t : Table) → AllByRecursion P (map (λ e. e.1) es) → find nat_cmp r es ≡ Some t → P t
found_in P [] r t h e = absurd cc
found_in P (x ∷ es) r t h e =
    elim (is_eq (nat_cmp r x.0)) as (λ b. cond b (Some x.1) (find nat_cmp r es) ≡ Some t → P t) [
      | true ↦ λ e. subst P (some_is x.1 t e) h.0
      | false ↦ λ e. found_in P es r t h.1 e
    ] e

none_left : {X : Type 0} (l : List X) → length l ≡ 0 → l ≡ []
none_left [] e = refl
none_left (x ∷ l) e = absurd (omega (arith, e))

no_keys : finite.entries {K = List ℕ} {X = Stored} {R = slice_cmp nat_cmp} finite.empty ≡ []
no_keys = none_left _ (sym (finite.len-entries {K = List ℕ} {X = Stored} {R = slice_cmp nat_cmp} finite.empty) ∙ finite.len-empty (slice_cmp nat_cmp) Stored)

-- an empty table needs no file
none_needed : (queue : LogQueue) (region : ℕ) → least_of queue (table_of region None) ≡ None
unfolding placed_in
none_needed Append region = rw (no_keys) refl
none_needed Rewrite region = rw (no_keys) refl

module _ (queue : LogQueue) where
  from_values : (n : ℕ) (m : Tables) → AllByRecursion (NeedsFrom queue n) (finite.values m) → AreLeastFrom queue n m
  from_values n m all r seq e = go (finite.get m r) refl e
    where
      go : (o : Option Table) → finite.get m r ≡ o → least_of queue (table_of r o) ≡ Some seq → n ≤ seq
      go None is e = let none = none_needed queue r in absurd cc
      go (Some t) is e = found_in (NeedsFrom queue n) (finite.entries m) r t all (sym (finite.get-entries m r) ∙ is) seq e

  each_value : (n : ℕ) (m : Tables) (es : List (ℕ × Table)) → AreLeastFrom queue n m → AllByRecursion (λ e. find nat_cmp e.0 (finite.entries m) ≡ Some e.1) es → AllByRecursion (NeedsFrom queue n) (map (λ e. e.1) es)
  each_value n m [] all f = tt
  each_value n m (e ∷ es) all f =
      let got : finite.get m e.0 ≡ Some e.1 = finite.get-entries m e.0 ∙ f.0 in
      ((λ seq is. all e.0 seq (ap (λ o. least_of queue (table_of e.0 o)) got ∙ is)), each_value n m es all f.1)

  to_values : (n : ℕ) (m : Tables) → AreLeastFrom queue n m → AllByRecursion (NeedsFrom queue n) (finite.values m)
  to_values n m all = each_value n m (finite.entries m) all (each_found (finite.entries m) (finite.entries_sorted m))

  moved : (n : ℕ) (ts us : List Table) → IsPermutation ts us → AllByRecursion (NeedsFrom queue n) ts → AllByRecursion (NeedsFrom queue n) us
  moved n ts us p all = recursion_from_All (NeedsFrom queue n) us (All-permutation (NeedsFrom queue n) ts us p (All-from_recursion (NeedsFrom queue n) ts all))

  pub least_needed : (m : Tables) (last : ℕ) (ts : List Table) → IsPermutation ts (finite.values m) → IsLeastNeeded queue m last (least_among queue last ts)
  least_needed m last ts p = record {
    at_most = least_low queue last ts;
    from = from_values (least_among queue last ts) m (moved (least_among queue last ts) ts (finite.values m) p (least_each queue last ts));
    needed = λ less all.
        let n = least_among queue last ts + 1 in
        let high = least_high queue n last ts (omega (arith, less)) (moved n (finite.values m) ts (IsPermutation-sym ts (finite.values m) p) (to_values n m all)) in
        absurd (omega (arith, high));
  }
