-- Parts of a table's entries, as a fetch takes them.
use Rattle.raft_table.proofs.Common.{◌≡◌, ℕ, zero, suc, ◌+◌, ◌-◌, ◌<◌, ◌≤◌, ◌⊎◌, inl, inr, true, false, List, [], ◌∷◌, ◌++◌, length, get_or, take, drop, Option, Some, refl, sym, ap, ◌∙◌, subst, arith, prefix_len, slice_get, take_while}
use Rattle.raft_table.proofs.Common.{drop_at, length-take, take-take, drop-take, get_or-drop, get_or-take, sum_by_more, cases_lt, nat_tests, EntryIndex, AreTableEntries, start_of, from, entries_between, placed_in, entry_count, total_len}
use Rattle.raft_table.proofs.Common.{is_too_many, IsLimitCount, FetchesWithin, NotFound, Compacted, Found, range_answer, appended_before, is_placed_before, Append, Rewrite}
use Rattle.raft_table.proofs.RunLemmas.{RisesFrom-take}
use Rattle.raft_table.proofs.SoundLemmas.{sound_rising}
use Rattle.raft_table.proofs.StartLemmas.{sound_end}
use Rattle.raft_table.proofs.RewriteLemmas.{below_is, from_is}

-- a part of a list, by where it begins and how long it is
pub part_is : {X : Type 0} (a b : ℕ) (xs : List X) → a ≤ b → drop a (take b xs) ≡ take (b - a) (drop a xs)
part_is a b xs h = ap (λ k. drop a (take k xs)) (let e : b ≡ a + (b - a) = omega arith in e) ∙ drop-take a (b - a) xs

pub total_more : (xs : List EntryIndex) (n : ℕ) (d : EntryIndex) → n < length xs → total_len (suc n) xs ≡ total_len n xs + (get_or xs n d).entry_len
total_more xs n d l = let e : n + 1 ≡ suc n = omega arith in rw e at (sum_by_more (λ y. y.entry_len) xs n d l)

too_many : (limit n total len : ℕ) (xs : List EntryIndex) (d : EntryIndex) → n < length xs → total ≡ total_len n xs → len ≡ (get_or xs n d).entry_len → limit < total + len → 0 < total → is_too_many (Some limit) n xs ≡ true
too_many limit n total len xs d l e f g h = let t = total_more xs n d l in grind (arith, nat_tests)

few_enough : (limit n total len : ℕ) (xs : List EntryIndex) (d : EntryIndex) → n < length xs → total ≡ total_len n xs →
    len ≡ (get_or xs n d).entry_len → ((limit < total + len) × (total ≤ 0)) ⊎ (total + len ≤ limit) → is_too_many (Some limit) n xs ≡ false
few_enough limit n total len xs d l e f (inl g) = let t = total_more xs n d l in grind (arith, nat_tests)
few_enough limit n total len xs d l e f (inr g) = let t = total_more xs n d l in grind (arith, nat_tests)

-- a loop over the lengths, where it stops and where it goes on
pub limit_stops : (limit n total len : ℕ) (xs : List EntryIndex) (d : EntryIndex) → n < length xs → total ≡ total_len n xs →
    len ≡ (get_or xs n d).entry_len → limit < total + len → 0 < total → ((m : ℕ) → m < n → is_too_many (Some limit) m xs ≡ false) →
    IsLimitCount (Some limit) xs n
limit_stops limit n total len xs d l e f g h k = record { there = omega arith; fit = k; stops = λ _. too_many limit n total len xs d l e f g h }

pub limit_more : (limit n total len : ℕ) (xs : List EntryIndex) (d : EntryIndex) → n < length xs → total ≡ total_len n xs →
    len ≡ (get_or xs n d).entry_len → ((limit < total + len) × (total ≤ 0)) ⊎ (total + len ≤ limit) →
    ((m : ℕ) → m < n → is_too_many (Some limit) m xs ≡ false) →
    (total + len ≡ total_len (suc n) xs) × ((m : ℕ) → m < suc n → is_too_many (Some limit) m xs ≡ false)
limit_more limit n total len xs d l e f g k =
    let t = total_more xs n d l in (
      omega arith,
      λ m b. elim (cases_lt m n) [
        | inl a ↦ k m a
        | inr a ↦ subst (λ i. is_too_many (Some limit) i xs ≡ false) (let q : n ≡ m = omega arith in q) (few_enough limit n total len xs d l e f g)
      ],
    )

pub part_at : (a b i : ℕ) (xs : List EntryIndex) (d : EntryIndex) → a ≤ i → i < b → get_or (drop a (take b xs)) (i - a) d ≡ get_or xs i d
part_at a b i xs d h l =
    get_or-drop a (take b xs) (i - a) d ∙ ap (λ k. get_or (take b xs) k d) (let e : a + (i - a) ≡ i = omega arith in e) ∙ get_or-take b xs i d l

pub appended_is : (es : List EntryIndex) → AreTableEntries es → placed_in Append es ≡ drop (entry_count Rewrite es) es
appended_is es h = sym (ap (drop (entry_count Rewrite es)) h.in_front ∙ drop_at (placed_in Rewrite es) (placed_in Append es) (entry_count Rewrite es) refl)

pub slice_get_drop : {X : Type 0} (n : ℕ) (xs : List X) → slice_get (drop n xs) 0 ≡ slice_get xs n
slice_get_drop zero xs = refl
slice_get_drop (suc n) [] = refl
slice_get_drop (suc n) (x ∷ xs) = slice_get_drop n xs

-- the appended entries at or below a gate
pub appended_before_is : (gate n r : ℕ) (es : List EntryIndex) → AreTableEntries es → r ≡ entry_count Rewrite es → n ≡ prefix_len (is_placed_before gate) (drop r es) → appended_before gate es ≡ drop r (take (r + n) es)
appended_before_is gate n r es h k e =
    ap (take_while (is_placed_before gate)) (appended_is es h ∙ ap (λ i. drop i es) (sym k)) ∙ ap (λ i. take i (drop r es)) (sym e) ∙ sym (drop-take r n es)

-- what a range answers, over a table's entries
pub range_none : (begin end : ℕ) → begin < end → range_answer begin end [] ≡ NotFound
range_none begin end l = grind (arith, nat_tests)

pub range_below : (begin end : ℕ) (es : List EntryIndex) → 0 < length es → begin < end → begin < start_of es → range_answer begin end es ≡ Compacted
range_below begin end es l a b = grind (arith, nat_tests)

pub range_behind : (begin end : ℕ) (es : List EntryIndex) → AreTableEntries es → 0 < length es → begin < end → start_of es ≤ begin → start_of es + length es < end → range_answer begin end es ≡ NotFound
range_behind begin end es h l a b c = let e = sound_end es h l in rw e (grind (arith, nat_tests))

pub range_found : (begin end : ℕ) (es : List EntryIndex) → AreTableEntries es → 0 < length es → begin < end → start_of es ≤ begin → end ≤ start_of es + length es → range_answer begin end es ≡ Found
range_found begin end es h l a b c = let e = sound_end es h l in rw e (grind (arith, nat_tests))

pub between_is : (begin end : ℕ) (es : List EntryIndex) → AreTableEntries es → entries_between begin end es ≡ drop (begin - start_of es) (take (end - start_of es) es)
unfolding entries_between
between_is begin end es h =
    ap (from begin) (below_is end (start_of es) es (sound_rising es h))
    ∙ from_is begin (start_of es) (take (end - start_of es) es) (RisesFrom-take (end - start_of es) (start_of es) es (sound_rising es h))

pub part_front : {X : Type 0} (a b n : ℕ) (xs : List X) → a ≤ b → n ≤ length (drop a (take b xs)) → drop a (take (a + n) xs) ≡ take n (drop a (take b xs))
part_front a b n xs h l =
    let p = part_is a b xs h in
    let q = length-take (b - a) (drop a xs) in
    let r = ap length p in
    drop-take a n xs ∙ sym (ap (take n) p ∙ take-take n (b - a) (drop a xs) (omega arith))

pub fetched_part : (limit : Option ℕ) (begin end n : ℕ) (es old new : List EntryIndex) → AreTableEntries es → start_of es ≤ begin → begin ≤ end →
    IsLimitCount limit (drop (begin - start_of es) (take (end - start_of es) es)) n →
    new ≡ old ++ drop (begin - start_of es) (take (begin - start_of es + n) es) → FetchesWithin limit (entries_between begin end es) old new
fetched_part limit begin end n es old new h a b w e =
    let p = between_is begin end es h in
    record {
      count = n;
      within = rw p w;
      appended = e ∙ ap (λ xs. old ++ xs) (part_front (begin - start_of es) (end - start_of es) n es (omega arith) w.there ∙ ap (take n) (sym p));
    }
