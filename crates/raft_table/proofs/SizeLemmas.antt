-- How many records a table has, and what a fetch finds of its entries.
use Rattle.raft_table.proofs.Common.{◌≡◌, ℕ, zero, suc, ◌+◌, ◌-◌, ◌<◌, ◌≤◌, ◌⊎◌, inl, inr, Bool, true, false, cond, ltb, leb, ◌&&◌, List, ◌++◌, length, take, drop, Option, Some, None, refl, sym, ap, ◌∙◌, arith, cases_lt, nat_tests}
use Rattle.raft_table.proofs.Common.{length-append, length-take-le, length-drop, take_all, EntryIndex, RisesFrom, end_of, AreTableEntries, start_of, below, entries_between, placed_in, entry_count, entry_at, Empty, NotFound, Compacted}
use Rattle.raft_table.proofs.Common.{Found, range_answer, total_len, is_too_many, IsLimitCount, FetchesWithin, Table, live_of, Append, Rewrite, [], ◌∷◌, filter, map, get_or, All, Contains, subst, Ordering, nat_cmp, eq_by_cmp, is_eq}
use Rattle.raft_table.proofs.Common.{option_map, IsTotalOrder, eq_by_cmp_equiv, slice_cmp, nat_list_cmp_total, AllByRecursion, IsStrictlySortedBy, IsAntisymmetric, find, is_sorted, nat_cmp-IsAntisymmetric, slice_cmp-IsAntisymmetric}
use Rattle.raft_table.proofs.Common.{below_all, is_sorted-where_key, All-nil, All-cons, All-map, Keys, Stored, value_at, key_value, is_between, pairs_between}
use Rattle.raft_table.proofs.FetchLemmas.{between_is}
use Rattle.raft_table.proofs.KeyValueCounts.{pair_count-both}
use Rattle.raft_table.proofs.RunLemmas.{RisesFrom-take, RisesFrom-drop}
use Rattle.raft_table.proofs.SoundLemmas.{sound_rising}
use Rattle.raft_table.proofs.LastWordLemmas.{entry_with_index-below, entry_with_index-from}
use Rattle.raft_table.proofs.StartLemmas.{sound_end}
use lib.Dec.{T}
use Rattle.std.specs.declared.cmp.Ordering.TheVariants.{Less}
use Rattle.raft_table.proofs.Shown.{first_of_both, second_of_both, equal, less}
use Rattle.raft_table.proofs.MarkEntries.{same_some}
use Rattle.std.specs.FinMap as finite

pub length_by_ends : (es : List EntryIndex) → AreTableEntries es → 0 < length es → start_of es + length es ≡ end_of es
length_by_ends es h l = sym (sound_end es h l)

pub entries_of_both : (es : List EntryIndex) → AreTableEntries es → entry_count Append es + entry_count Rewrite es ≡ length es
entries_of_both es h = omega (arith, ap length h.in_front, length-append (placed_in Rewrite es) (placed_in Append es))

pub records_of_both : (t : Table) → AreTableEntries t.entries → live_of Append t + live_of Rewrite t ≡ length t.entries + finite.len t.keys
records_of_both t h = omega (arith, entries_of_both t.entries h, pair_count-both t.keys)

pub between_by_index : (begin end i : ℕ) (es : List EntryIndex) → entry_at i (entries_between begin end es) ≡ cond (leb begin i && ltb i end) (entry_at i es) None
unfolding entries_between
between_by_index begin end i es =
    entry_with_index-from i begin (below end es) ∙ ap (cond (ltb i begin) None) (entry_with_index-below i end es) ∙ at (ltb i begin) (leb begin i) (ltb i end) refl refl
  where
    at : (a b c : Bool) → ltb i begin ≡ a → leb begin i ≡ b → cond a None (cond c (entry_at i es) None) ≡ cond (b && c) (entry_at i es) None
    at true true c e f = absurd (grind (arith, nat_tests))
    at true false c e f = refl
    at false true c e f = refl
    at false false c e f = absurd (grind (arith, nat_tests))

answers_found : (a b c d : Bool) → cond a Empty (cond b NotFound (cond c Compacted (cond d NotFound Found))) ≡ Found → (a ≡ false) × (b ≡ false) × (c ≡ false) × (d ≡ false)
answers_found true b c d e = absurd cc
answers_found false true c d e = absurd cc
answers_found false false true d e = absurd cc
answers_found false false false true e = absurd cc
answers_found false false false false e = (refl, refl, refl, refl)

-- a range that is found: all of it stands
pub found_is_whole : (begin end : ℕ) (es : List EntryIndex) → AreTableEntries es → range_answer begin end es ≡ Found → RisesFrom begin (entries_between begin end es) × (begin + length (entries_between begin end es) ≡ end)
found_is_whole begin end es h f =
    let s = start_of es in
    let t = answers_found _ _ _ _ f in
    let some : begin < end = let e = t.0 in grind (arith, nat_tests) in
    let there : 0 < length es = let e = t.1 in grind (arith, nat_tests) in
    let first : s ≤ begin = let e = t.2 in grind (arith, nat_tests) in
    let last : end ≤ end_of es = let e = t.3 in grind (arith, nat_tests) in
    let top = sound_end es h there in
    let front = take (end - s) es in
    let n : length front ≡ end - s = length-take-le (end - s) es (omega arith) in
    let m : length (drop (begin - s) front) ≡ end - s - (begin - s) = length-drop (begin - s) front ∙ ap (λ k. k - (begin - s)) n in
    let r = RisesFrom-drop (begin - s) s front (RisesFrom-take (end - s) s es (sound_rising es h)) (omega arith) in
    let e : s + (begin - s) ≡ begin = omega arith in
    rw (between_is begin end es h) (rw e at r, omega arith)

-- ---- limits

pub unlimited_is_all : (es old new : List EntryIndex) → FetchesWithin None es old new → new ≡ old ++ es
unlimited_is_all es old new f =
    f.appended ∙ ap (λ xs. old ++ xs) (take_all f.count es (elim (cases_lt f.count (length es)) [
      | inl l ↦ let e = f.within.stops l in absurd cc
      | inr l ↦ l
    ]))

pub first_is_fetched : (limit : Option ℕ) (es : List EntryIndex) (n : ℕ) → IsLimitCount limit es n → 0 < length es → 0 < n
first_is_fetched limit es zero h l = absurd ((elim limit as (λ limit. is_too_many limit 0 es ≡ true → ⊥)
    [ None ↦ λ e. absurd cc | Some limit ↦ λ e. (elim (ltb limit (total_len 1 es)) as (λ b. (b && false) ≡ true → ⊥) [ true ↦ λ e. absurd cc | false ↦ λ e. absurd cc ]) e ]) (h.stops l))
first_is_fetched limit es (suc n) h l = omega arith

pub limit_is_kept : (limit n : ℕ) (es : List EntryIndex) → IsLimitCount (Some limit) es (suc n) → (total_len (suc n) es ≤ limit) ⊎ (total_len n es ≡ 0)
limit_is_kept limit n es h = at (ltb limit (total_len (suc n) es)) (ltb 0 (total_len n es)) refl refl (h.fit n (omega arith))
  where
    at : (a b : Bool) → ltb limit (total_len (suc n) es) ≡ a → ltb 0 (total_len n es) ≡ b → (a && b) ≡ false → (total_len (suc n) es ≤ limit) ⊎ (total_len n es ≡ 0)
    at true true e f g = absurd cc
    at true false e f g = inr (grind (arith, nat_tests))
    at false b e f g = inl (grind (arith, nat_tests))

pub one_limit_count : (limit : Option ℕ) (es : List EntryIndex) (m n : ℕ) → IsLimitCount limit es m → IsLimitCount limit es n → m ≡ n
one_limit_count limit es m n h k =
    elim (cases_lt m n) [
      | inl l ↦ absurd (differ (h.stops (omega (arith, l, k.there))) (k.fit m l))
      | inr l ↦ elim (cases_lt n m) [
        | inl g ↦ absurd (differ (k.stops (omega (arith, g, h.there))) (h.fit n g))
        | inr g ↦ omega arith
      ]
    ]
  where
    differ : {b : Bool} → b ≡ true → b ≡ false → ⊥
    differ e f = absurd cc

module _ {A V : Type 0} {R : A → A → Ordering} (o : IsTotalOrder R) where
  below_at : (x : A) (es : List (A × V)) (e : A × V) (k : ℕ) → T (below_all R x es) → k < length es → get_or es k e ≡ e → R x e.0 ≡ Less
  below_at x [] e k h l s = absurd (omega arith)
  below_at x (y ∷ es) e zero h l s = subst (λ (z : A × V). R x z.0 ≡ Less) s (less (R x y.0) (first_of_both _ _ h))
  below_at x (y ∷ es) e (suc k) h l s = below_at x es e k (second_of_both _ _ h) (omega arith) s

  own_found : (es : List (A × V)) (e : A × V) (k : ℕ) → T (is_sorted R es) → k < length es → get_or es k e ≡ e → find R e.0 es ≡ Some e.1
  own_found [] e k h l s = absurd (omega arith)
  own_found (x ∷ es) e zero h l s =
      subst (λ (z : A × V). find R z.0 (x ∷ es) ≡ Some z.1) s (ap (λ b. cond b (Some x.1) (find R x.0 es)) ((eq_by_cmp_equiv o).refl x.0))
  own_found (x ∷ es) e (suc k) h l s =
      let apart : eq_by_cmp R e.0 x.0 ≡ false = (eq_by_cmp_equiv o).symm e.0 x.0 ∙ ap is_eq (below_at x.0 es e k (first_of_both _ _ h) (omega arith) s) in
      ap (λ b. cond b (Some x.1) (find R e.0 es)) apart ∙ own_found es e k (second_of_both _ _ h) (omega arith) s

-- what a key finds is there
found_there : {A V : Type 0} {R : A → A → Ordering} → IsAntisymmetric R → (q : A) (v : V) (es : List (A × V)) → find R q es ≡ Some v → Contains es (q, v)
found_there same q v [] e = absurd cc
found_there {A} {V} {R} same q v (x ∷ es) e = at (eq_by_cmp R q x.0) refl e (found_there same q v es)
  where
    at : (b : Bool) → eq_by_cmp R q x.0 ≡ b → cond b (Some x.1) (find R q es) ≡ Some v → (find R q es ≡ Some v → Contains es (q, v)) → Contains (x ∷ es) (q, v)
    at true t e rest = (0, omega arith, ap (λ k. (k, x.1)) (sym (same q x.0 (equal _ t))) ∙ ap (λ w. (q, w)) (same_some x.1 v e))
    at false t e rest = let h = rest e in (suc h.0, omega (arith, h.1), h.2)

all_kept : {X : Type 0} (p : X → Bool) (P : X → Type 0) (xs : List X) → ((x : X) → Contains xs x → p x ≡ true → P x) → All P (filter p xs)
all_kept p P [] h = All-nil P
all_kept p P (x ∷ xs) h =
    let rest = all_kept p P xs (λ y c. h y (suc c.0, omega (arith, c.1), c.2)) in
    elim (p x) as (λ b. p x ≡ b → All P (cond b (x ∷ filter p xs) (filter p xs))) [
      | true ↦ λ t. All-cons P x (filter p xs) (h x (0, omega arith, refl) t) rest
      | false ↦ λ t. rest
    ] refl

kept_there : {X : Type 0} (p : X → Bool) (xs : List X) (x : X) (k : ℕ) → k < length xs → get_or xs k x ≡ x → p x ≡ true → Contains (filter p xs) x
kept_there p [] x k l s e = absurd (omega arith)
kept_there p (y ∷ xs) x zero l s e = rw (ap p s ∙ e) (0, omega arith, s)
kept_there p (y ∷ xs) x (suc k) l s e =
    let rest = kept_there p xs x k (omega arith) s e in
    elim (p y) as (λ b. Contains (cond b (y ∷ filter p xs) (filter p xs)) x) [
      | true ↦ (suc rest.0, omega (arith, rest.1), rest.2)
      | false ↦ rest
    ]

mapped_there : {X Y : Type 0} (f : X → Y) (xs : List X) (x : X) (k : ℕ) → k < length xs → get_or xs k x ≡ x → Contains (map f xs) (f x)
mapped_there f [] x k l s = absurd (omega arith)
mapped_there f (y ∷ xs) x zero l s = (0, omega arith, ap f s)
mapped_there f (y ∷ xs) x (suc k) l s = let rest = mapped_there f xs x k (omega arith) s in (suc rest.0, omega (arith, rest.1), rest.2)

-- the keys of entries in order rise
rising_keys : (es : List (List ℕ × Stored)) → T (is_sorted (slice_cmp nat_cmp) es) → IsStrictlySortedBy (slice_cmp nat_cmp) (map (λ p. p.0) (map key_value es))
unfolding IsStrictlySortedBy
rising_keys [] h = tt
rising_keys (e ∷ es) h = (below es (first_of_both _ _ h), rising_keys es (second_of_both _ _ h))
  where
    below : (xs : List (List ℕ × Stored)) → T (below_all (slice_cmp nat_cmp) e.0 xs) → AllByRecursion (λ y. slice_cmp nat_cmp e.0 y ≡ Less) (map (λ p. p.0) (map key_value xs))
    below [] h = tt
    below (x ∷ xs) h = (less _ (first_of_both _ _ h), below xs (second_of_both _ _ h))

pub visited_are_pairs : (start end : Option (List ℕ)) (keys : Keys) → All (λ p. (value_at keys p.0 ≡ Some p.1) × (is_between start end p.0 ≡ true)) (pairs_between start end false keys)
visited_are_pairs start end keys =
    All-map (λ p. (value_at keys p.0 ≡ Some p.1) × (is_between start end p.0 ≡ true)) key_value (filter (λ e. is_between start end e.0) (finite.entries keys))
    (all_kept (λ e. is_between start end e.0) (λ e. (value_at keys e.0 ≡ Some e.1.value) × (is_between start end e.0 ≡ true)) (finite.entries keys) (λ e c t. (is e c, t)))
  where
    is : (e : List ℕ × Stored) → Contains (finite.entries keys) e → value_at keys e.0 ≡ Some e.1.value
    is e c = ap (option_map (λ s. s.value)) (finite.get-entries keys e.0 ∙ own_found nat_list_cmp_total (finite.entries keys) e c.0 (finite.entries_sorted keys) c.1 c.2)

pub pairs_are_visited : (start end : Option (List ℕ)) (keys : Keys) (key value : List ℕ) → value_at keys key ≡ Some value → is_between start end key ≡ true → Contains (pairs_between start end false keys) (key, value)
pairs_are_visited start end keys key value h t = at (finite.get keys key) refl h
  where
    at : (o : Option Stored) → finite.get keys key ≡ o → option_map (λ s. s.value) o ≡ Some value → Contains (pairs_between start end false keys) (key, value)
    at None is e = absurd cc
    at (Some s) is e =
        let there = found_there (slice_cmp-IsAntisymmetric nat_cmp-IsAntisymmetric) key s (finite.entries keys) (sym (finite.get-entries keys key) ∙ is) in
        let kept = kept_there (λ e. is_between start end e.0) (finite.entries keys) (key, s) there.0 there.1 there.2 t in
        subst (λ v. Contains (pairs_between start end false keys) (key, v)) (same_some s.value value e) (mapped_there key_value _ (key, s) kept.0 kept.1 kept.2)

pub visits_rise : (start end : Option (List ℕ)) (keys : Keys) → IsStrictlySortedBy (slice_cmp nat_cmp) (map (λ p. p.0) (pairs_between start end false keys))
visits_rise start end keys = rising_keys _ (is_sorted-where_key (slice_cmp nat_cmp) (is_between start end) (finite.entries keys) (finite.entries_sorted keys))
