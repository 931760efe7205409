-- Laws of the words of marks on lists of entries, and where parts of runs end.
use Rattle.raft_table.proofs.Common.{◌≡◌, ℕ, suc, ◌<◌, ◌≤◌, max, Bool, true, false, cond, ◌&&◌, ltb, leb, List, [], ◌∷◌, ◌++◌, Option, Some, None, refl, ap, ◌∙◌, arith, filter-append, nat_tests, EntryIndex, end_of, below, from}
use Rattle.raft_table.proofs.Common.{entries_within, is_under, lesser, ◌⊎◌, min, inl, inr, RisesFrom, append_assoc, filter, ◌||◌, eqb, sym, option_or, misses, is_barred, LiesWithin, BarsStaying, FitsRun, at_most_bound, narrowed_bars}
use Rattle.raft_table.proofs.Common.{is_detached, Mark}
use Rattle.std.proofs.lemmas.List.Elements.{filter_agree}
use Rattle.raft_table.proofs.RunLemmas.{filter-filter, end_of-append}

-- where what the first run of a newer mark meets ends
abbrev pub met_at : Mark → List EntryIndex → ℕ
met_at n t = end_of (entries_within n.reach_floor n.reach_cut t)

pub filter-none : {X : Type 0} (p : X → Bool) → ((x : X) → p x ≡ false) → (xs : List X) → filter p xs ≡ []
filter-none p none [] = refl
filter-none p none (x ∷ xs) = rw (none x) (filter-none p none xs)

filter-all : {X : Type 0} (p : X → Bool) → ((x : X) → p x ≡ true) → (xs : List X) → filter p xs ≡ xs
filter-all p every [] = refl
filter-all p every (x ∷ xs) = rw (every x) (ap (λ l. x ∷ l) (filter-all p every xs))

pub within-append : (floor : ℕ) (cut : Option ℕ) (xs ys : List EntryIndex) → entries_within floor cut (xs ++ ys) ≡ entries_within floor cut xs ++ entries_within floor cut ys
unfolding entries_within
within-append floor cut xs ys = filter-append (λ e. leb floor e.index && is_under cut e.index) xs ys

pub within-nil : (floor : ℕ) (cut : Option ℕ) → entries_within floor cut [] ≡ []
unfolding entries_within
within-nil floor cut = refl

pub within-empty : (floor c : ℕ) (es : List EntryIndex) → c ≤ floor → entries_within floor (Some c) es ≡ []
unfolding entries_within
within-empty floor c es h = filter-none _ (λ e. grind (arith, nat_tests)) es

pub within-whole : (es : List EntryIndex) → entries_within 0 None es ≡ es
unfolding entries_within
within-whole es = filter-all _ (λ e. grind (arith, nat_tests)) es

pub within-from : (floor : ℕ) (es : List EntryIndex) → entries_within floor None es ≡ from floor es
unfolding entries_within from
within-from floor es = filter_agree _ _ (λ e. (elim (leb floor e.index) as (λ b. (b && true) ≡ b) [ true ↦ refl | false ↦ refl ])) es

pub within-below : (i : ℕ) (es : List EntryIndex) → entries_within 0 (Some i) es ≡ below i es
unfolding entries_within below
within-below i es = filter_agree _ _ (λ e. grind (arith, nat_tests)) es

both_parts : (l floor k : ℕ) (d cut : Option ℕ) → ((leb floor k && is_under cut k) && (leb l k && is_under d k)) ≡ (leb (max floor l) k && is_under (lesser cut d) k)
both_parts l floor k d cut = grind (arith, nat_tests)

pub within-within : (l : ℕ) (d : Option ℕ) (floor : ℕ) (cut : Option ℕ) (es : List EntryIndex) → entries_within l d (entries_within floor cut es) ≡ entries_within (max floor l) (lesser cut d) es
unfolding entries_within
within-within l d floor cut es = filter-filter _ _ _ (λ e. both_parts l floor e.index d cut) es

-- a part of what an older mark leaves
pub within-both : (l : ℕ) (d : Option ℕ) (floor : ℕ) (cut : Option ℕ) (o t u : List EntryIndex) → entries_within l d (entries_within floor cut o ++ t) ++ u ≡ entries_within (max floor l) (lesser cut d) o ++ (entries_within l d t ++ u)
within-both l d floor cut o t u = rw (within-append, within-within) (append_assoc (entries_within (max floor l) (lesser cut d) o) (entries_within l d t) u)

pub end_of-nil : end_of [] ≡ 0
unfolding end_of
end_of-nil = refl

pub nil_of_end : (es : List EntryIndex) → end_of es ≡ 0 → es ≡ []
unfolding end_of
nil_of_end [] h = refl
nil_of_end (e ∷ es) h = absurd (omega arith)

pub end_of-first : (e : EntryIndex) (es : List EntryIndex) → e.index < end_of (e ∷ es)
unfolding end_of
end_of-first e es = omega arith

pub end_of-cond : (b : Bool) (e : EntryIndex) (es : List EntryIndex) → end_of (cond b (e ∷ es) es) ≡ cond b (max (suc e.index) (end_of es)) (end_of es)
unfolding end_of
end_of-cond true e es = refl
end_of-cond false e es = refl

pub end_of-from : (i : ℕ) (es : List EntryIndex) → end_of (from i es) ≡ cond (ltb i (end_of es)) (end_of es) 0
unfolding end_of from
end_of-from i [] = grind (arith, nat_tests)
end_of-from i (e ∷ es) = end_of-cond (leb i e.index) e (from i es) ∙ one i e.index (end_of es) _ (end_of-from i es)
  where
    one : (i k n m : ℕ) → m ≡ cond (ltb i n) n 0 → cond (leb i k) (max (suc k) m) m ≡ cond (ltb i (max (suc k) n)) (max (suc k) n) 0
    one i k n m h = grind (arith, nat_tests)

-- where a part of what an older mark leaves ends
pub end_of-part_both : (l : ℕ) (d : Option ℕ) (floor c : ℕ) (o t : List EntryIndex) →
    end_of (entries_within l d (entries_within floor (Some c) o ++ t)) ≡ max (end_of (entries_within (max floor l) (lesser (Some c) d) o))
    (end_of (entries_within l d t))
end_of-part_both l d floor c o t = rw (within-append, within-within, end_of-append) refl

-- where the part from a to b of a run from s to e ends
abbrev pub top : ℕ → ℕ → ℕ → Option ℕ → ℕ
top s e a None = cond (ltb (max s a) e) e 0
top s e a (Some b) = cond (ltb (max s a) (min e b)) (min e b) 0

end_of-rising : (s : ℕ) (es : List EntryIndex) → RisesFrom s es → (end_of es ≡ 0) ⊎ (s < end_of es)
unfolding end_of
end_of-rising s [] h = inl refl
end_of-rising s (e ∷ es) h = inr (omega (arith, h.0))

top_more : (s e a : ℕ) (b : Option ℕ) (k m : ℕ) → k ≡ s → (e ≡ 0) ⊎ (suc s < e) → m ≡ top (suc s) e a b → cond (leb a k && is_under b k) (max (suc k) m) m ≡ top s (max (suc k) e) a b
top_more s e a b k m is h e' = grind (arith, nat_tests)

pub end_of-part_run : (s a : ℕ) (b : Option ℕ) (es : List EntryIndex) → RisesFrom s es → end_of (entries_within a b es) ≡ top s (end_of es) a b
unfolding end_of entries_within
end_of-part_run s a None [] h = grind (arith, nat_tests)
end_of-part_run s a (Some b) [] h = grind (arith, nat_tests)
end_of-part_run s a b (e ∷ es) h = end_of-cond (leb a e.index && is_under b e.index) e (filter (λ e. leb a e.index && is_under b e.index) es)
    ∙ top_more s (end_of es) a b e.index _ h.0 (end_of-rising (suc s) es h.1) (end_of-part_run (suc s) a b es h.1)

-- barred indexes of an older mark, or else one of two
abbrev pub barred_of : Option (ℕ × ℕ) → Bool → Option (ℕ × ℕ) → Option (ℕ × ℕ) → Option (ℕ × ℕ)
barred_of barred b x y = option_or barred (cond b x y)

-- a wider entries_within of a run without entries has no narrower one with entries
pub none_within : (s e l d lo c : ℕ) → l ≤ lo → c ≤ d → top s e l (Some d) ≡ 0 → top s e lo (Some c) ≡ 0
none_within s e l d lo c h k z = grind (arith, nat_tests)

-- an older table over which nothing is refused has no entry between lo and the cut c, or reaches the cut
settled : (s e r c et reach_floor lo : ℕ) (reach_cut : Option ℕ) (barred : Option (ℕ × ℕ)) → FitsRun r c et reach_floor lo reach_cut barred →
    misses (Some r) (top s e reach_floor reach_cut) ≡ false → ((p : ℕ × ℕ) → barred ≡ Some p → top s e p.0 (Some p.1) ≡ 0)
    → (top s e lo (Some c) ≡ 0) ⊎ ((c ≤ e) × ((et ≡ 0) ⊎ (c ≤ et)))
settled s e r c et reach_floor lo None None f ok open' = grind (arith, nat_tests)
settled s e r c et reach_floor lo (Some t) None f ok open' = grind (arith, nat_tests)
settled s e r c et reach_floor lo reach_cut (Some p) f ok open' = inl (none_within s e p.0 p.1 lo c f.covers.0 f.covers.1 (open' p refl))

-- where what the newer run meets ends: x of the own table t, from s1 to e1, y of the older one
met : (s e s1 e1 c lo z : ℕ) (b : Option ℕ) → (top s e lo (Some c) ≡ 0) ⊎ ((c ≤ e) × ((e1 ≡ 0) ⊎ (c ≤ e1)))
    → max (top s e (max lo z) (lesser (Some c) b)) (top s1 e1 z b) ≡ cond (eqb (top s1 e1 z b) 0) (top s e (max lo z) (lesser (Some c) b)) (top s1 e1 z b)
met s e s1 e1 c lo z None h = grind (arith, nat_tests)
met s e s1 e1 c lo z (Some b) h = grind (arith, nat_tests)

-- the older entries_within ends at the cut, where it has entries
at_cut : (s e c et lo z : ℕ) (b : Option ℕ) → (top s e lo (Some c) ≡ 0) ⊎ ((c ≤ e) × ((et ≡ 0) ⊎ (c ≤ et)))
    → (top s e (max lo z) (lesser (Some c) b) ≡ 0) ⊎ (top s e (max lo z) (lesser (Some c) b) ≡ at_most_bound c b)
at_cut s e c et lo z None h = grind (arith, nat_tests)
at_cut s e c et lo z (Some b) h = grind (arith, nat_tests)

-- whether the newer run, or its second meeting, refuses
answer : (r : Option ℕ) (x y b : ℕ) (z : Bool) → (y ≡ 0) ⊎ (y ≡ b) → (y ≡ 0 → z ≡ false) → misses r x ≡ false
    → (misses r (cond (eqb x 0) y x) || z) ≡ cond (is_detached r x b) (ltb 0 y) z
answer None x y b z h k ok = refl
answer (Some r) x y b true h k ok = grind (arith, nat_tests)
answer (Some r) x y b false h k ok = grind (arith, nat_tests)

answer_none : (r : Option ℕ) (x y : ℕ) (z : Bool) → y ≡ 0 → z ≡ false → misses r x ≡ false → (misses r (cond (eqb x 0) y x) || z) ≡ false
answer_none None x y z h k ok = k
answer_none (Some r) x y z h k ok = grind (arith, nat_tests)

pub bounds : (c : ℕ) (b : Option ℕ) → lesser (Some c) b ≡ Some (at_most_bound c b)
bounds c None = refl
bounds c (Some b) = refl

-- the second meeting of the newer mark over what the older mark leaves
blocks_later : (barred : Option (ℕ × ℕ)) (lo c : ℕ) (o t : List EntryIndex) → is_barred barred t ≡ false → is_barred barred (entries_within lo (Some c) o ++ t) ≡ is_barred (narrowed_bars lo (Some c) barred) o
blocks_later None lo c o t h = refl
blocks_later (Some p) lo c o t h = ap (ltb 0) (end_of-part_both p.0 (Some p.1) lo c o t ∙ none_there _ _ h ∙ ap (λ d. end_of (entries_within (max lo p.0) (Some d) o)) (omega arith))
  where
    none_there : (x y : ℕ) → ltb 0 y ≡ false → max x y ≡ x
    none_there x y h = grind (arith, nat_tests)

abbrev pub Settled : ℕ → ℕ → ℕ → List EntryIndex → Type 0
Settled lo c et o = (end_of (entries_within lo (Some c) o) ≡ 0) ⊎ ((c ≤ end_of o) × ((et ≡ 0) ⊎ (c ≤ et)))

pub tests_false : (x : ℕ) → ltb 0 x ≡ false → x ≡ 0
tests_false x h = grind (arith, nat_tests)

pub settled_list : (s : ℕ) (o : List EntryIndex) (r c et reach_floor lo : ℕ) (reach_cut : Option ℕ) (barred : Option (ℕ × ℕ)) → RisesFrom s o → FitsRun r c et reach_floor lo reach_cut barred
    → misses (Some r) (end_of (entries_within reach_floor reach_cut o)) ≡ false → is_barred barred o ≡ false → Settled lo c et o
settled_list s o r c et reach_floor lo reach_cut barred run f ok open' =
    let a : misses (Some r) (top s (end_of o) reach_floor reach_cut) ≡ false = (rw (end_of-part_run s reach_floor reach_cut o run) at ok) in
    let b : (p : ℕ × ℕ) → barred ≡ Some p → top s (end_of o) p.0 (Some p.1) ≡ 0 = none_at in
    rw (end_of-part_run s lo (Some c) o run) (settled s (end_of o) r c et reach_floor lo reach_cut barred f a b)
  where
    none_at : (p : ℕ × ℕ) → barred ≡ Some p → top s (end_of o) p.0 (Some p.1) ≡ 0
    none_at p is = sym (end_of-part_run s p.0 (Some p.1) o run) ∙ tests_false _ (rw is at open')

pub met_list : (s s1 : ℕ) (o t : List EntryIndex) (c lo z : ℕ) (b : Option ℕ) → RisesFrom s o → RisesFrom s1 t → Settled lo c (end_of t) o
    → end_of (entries_within z b (entries_within lo (Some c) o ++ t)) ≡ cond (eqb (end_of (entries_within z b t)) 0) (end_of (entries_within (max lo z) (lesser (Some c) b) o)) (end_of (entries_within z b t))
met_list s s1 o t c lo z b run run1 h =
    end_of-part_both z b lo c o t
    ∙ (rw (end_of-part_run s (max lo z) (lesser (Some c) b) o run, end_of-part_run s1 z b t run1)
    (met s (end_of o) s1 (end_of t) c lo z b (rw (end_of-part_run s lo (Some c) o run) at h)))

pub at_cut_list : (s : ℕ) (o : List EntryIndex) (c et lo z : ℕ) (b : Option ℕ) → RisesFrom s o → Settled lo c et o
    → (end_of (entries_within (max lo z) (lesser (Some c) b) o) ≡ 0) ⊎ (end_of (entries_within (max lo z) (lesser (Some c) b) o) ≡ at_most_bound c b)
at_cut_list s o c et lo z b run h =
    rw (end_of-part_run s (max lo z) (lesser (Some c) b) o run) (at_cut s (end_of o) c et lo z b (rw (end_of-part_run s lo (Some c) o run) at h))

pub none_within_list : (s : ℕ) (o : List EntryIndex) (l d lo c : ℕ) → RisesFrom s o → l ≤ lo → c ≤ d → end_of (entries_within l (Some d) o) ≡ 0 → end_of (entries_within lo (Some c) o) ≡ 0
none_within_list s o l d lo c run h k z = end_of-part_run s lo (Some c) o run ∙ none_within s (end_of o) l d lo c h k (sym (end_of-part_run s l (Some d) o run) ∙ z)

-- the second meeting lies within what the newer run meets
second_within : (s : ℕ) (o : List EntryIndex) (lo c l0 : ℕ) (reach_cut : Option ℕ) (barred : Option (ℕ × ℕ)) → RisesFrom s o → LiesWithin l0 reach_cut barred
    → end_of (entries_within (max lo l0) (lesser (Some c) reach_cut) o) ≡ 0 → is_barred (narrowed_bars lo (Some c) barred) o ≡ false
second_within s o lo c l0 reach_cut None run f z = refl
second_within s o lo c l0 None (Some p) run f z =
    let w : end_of (entries_within (max lo p.0) (Some (min p.1 c)) o) ≡ 0 = none_within_list s o (max lo l0) c (max lo p.0) (min p.1 c) run (omega arith) (omega arith) z in rw w
second_within s o lo c l0 (Some reach_cut) (Some p) run f z =
    let w : end_of (entries_within (max lo p.0) (Some (min p.1 c)) o) ≡ 0 = none_within_list s o (max lo l0) (min c reach_cut) (max lo p.0) (min p.1 c) run (omega arith) (omega arith) z in rw w

-- an older second meeting that finds nothing leaves nothing for a newer one
shut_out : (s : ℕ) (o : List EntryIndex) (p : ℕ × ℕ) (lo c z : ℕ) (b : Option ℕ) → RisesFrom s o → BarsStaying (Some p) lo c → is_barred (Some p) o ≡ false
    → end_of (entries_within (max lo z) (lesser (Some c) b) o) ≡ 0
shut_out s o p lo c z None run f h = none_within_list s o p.0 p.1 (max lo z) c run (omega arith) (omega arith) (tests_false _ h)
shut_out s o p lo c z (Some b) run f h = none_within_list s o p.0 p.1 (max lo z) (min c b) run (omega arith) (omega arith) (tests_false _ h)

pub refuses_later : (s s1 : ℕ) (o t : List EntryIndex) (r c reach_floor lo : ℕ) (reach_cut : Option ℕ) (barred : Option (ℕ × ℕ)) (r' : Option ℕ) (l0 : ℕ) (b : Option ℕ) (barred' : Option (ℕ × ℕ))
    → RisesFrom s o → RisesFrom s1 t → FitsRun r c (end_of t) reach_floor lo reach_cut barred → LiesWithin l0 b barred'
    → misses r' (end_of (entries_within l0 b t)) ≡ false → is_barred barred' t ≡ false
    → misses (Some r) (end_of (entries_within reach_floor reach_cut o)) ≡ false → is_barred barred o ≡ false
    → (misses r' (end_of (entries_within l0 b (entries_within lo (Some c) o ++ t))) || is_barred barred' (entries_within lo (Some c) o ++ t))
    ≡ is_barred (barred_of barred (is_detached r' (end_of (entries_within l0 b t)) (at_most_bound c b)) (Some (max lo l0, at_most_bound c b)) (narrowed_bars lo (Some c) barred')) o
refuses_later s s1 o t r c reach_floor lo reach_cut barred r' l0 b barred' run run1 f f' n1 n2 m1 m2 = go barred f m2
  where
    go : (barred : Option (ℕ × ℕ)) → FitsRun r c (end_of t) reach_floor lo reach_cut barred → is_barred barred o ≡ false
        → (misses r' (end_of (entries_within l0 b (entries_within lo (Some c) o ++ t))) || is_barred barred' (entries_within lo (Some c) o ++ t))
        ≡ is_barred (barred_of barred (is_detached r' (end_of (entries_within l0 b t)) (at_most_bound c b)) (Some (max lo l0, at_most_bound c b)) (narrowed_bars lo (Some c) barred')) o
    go None f m2 =
        let st : Settled lo c (end_of t) o = settled_list s o r c (end_of t) reach_floor lo reach_cut None run f m1 m2 in
        rw (met_list s s1 o t c lo l0 b run run1 st, blocks_later barred' lo c o t n2)
        (answer r' _ _ (at_most_bound c b) _ (at_cut_list s o c (end_of t) lo l0 b run st) (second_within s o lo c l0 b barred' run f') n1
        ∙ pushed (is_detached r' (end_of (entries_within l0 b t)) (at_most_bound c b)))
      where
        pushed : (x : Bool) → cond x (ltb 0 (end_of (entries_within (max lo l0) (lesser (Some c) b) o))) (is_barred (narrowed_bars lo (Some c) barred') o)
            ≡ is_barred (barred_of None x (Some (max lo l0, at_most_bound c b)) (narrowed_bars lo (Some c) barred')) o
        pushed true = rw (bounds c b)
        pushed false = refl
    go (Some p) f m2 =
        let st : Settled lo c (end_of t) o = settled_list s o r c (end_of t) reach_floor lo reach_cut (Some p) run f m1 m2 in
        let out : end_of (entries_within (max lo l0) (lesser (Some c) b) o) ≡ 0 = shut_out s o p lo c l0 b run f.covers m2 in
        rw (met_list s s1 o t c lo l0 b run run1 st, blocks_later barred' lo c o t n2)
        (answer_none r' _ _ _ out (second_within s o lo c l0 b barred' run f' out) n1 ∙ sym m2)
