-- Entries under two marks, one after the other, and under the joined one.
use Rattle.std.proofs.lemmas.Bool.{or_parts}
use Rattle.raft_table.proofs.Common.{◌≡◌, ◌⊎◌, ℕ, ◌≤◌, max, min, Bool, true, false, cond, ◌&&◌, ◌||◌, ltb, eqb, List, [], ◌++◌, Option, Some, None, refl, sym, ap, ◌∙◌, arith, is_some, Append, Rewrite, option_and_then, append-nil, nat_tests}
use Rattle.raft_table.proofs.Common.{LogQueue, EntryIndex, RisesFrom, IsRun, end_of, lesser, Mark, entries_within, misses, is_missed, is_barred, entries_over, IsNotAbove, LiesWithin, FitsRun, FitsCut, Fits, at_most_bound, narrowed_bars}
use Rattle.raft_table.proofs.Common.{is_detached, joined_first, joined_later, joined_uncleaned, joined_at, start_of}
use Rattle.raft_table.proofs.RunLemmas.{rises}
use Rattle.raft_table.proofs.MarkWords.{met_at, within-within, within-both, within-empty, within-nil, end_of-nil, nil_of_end, top, end_of-part_run, barred_of, Settled, settled_list, met_list, at_cut_list, none_within, refuses_later}

pub same_some : {X : Type 0} (x y : X) → Some x ≡ Some y → x ≡ y
same_some x y e = cc

-- what an answer that is not refused says
pub accepted : {X : Type 0} (b : Bool) (v w : X) → cond b None (Some v) ≡ Some w → (b ≡ false) × (v ≡ w)
accepted true v w e = absurd cc
accepted false v w e = (refl, same_some v w e)

-- own entries over older ones, by the queue
abbrev pub over : LogQueue → Mark → List EntryIndex → List EntryIndex → Option (List EntryIndex)
over Append m own older = cond (misses m.reach (end_of (entries_within m.reach_floor m.reach_cut older)) || is_barred m.barred older) None (Some (cond m.cleaned own (entries_within m.floor m.cut older ++ own)))
over Rewrite m own older = Some (cond m.cleaned own (cond (misses m.reach (end_of (entries_within m.reach_floor m.reach_cut older))) own (entries_within m.floor m.cut older ++ own)))

pub over_is : (q : LogQueue) (m : Mark) (own older : List EntryIndex) → entries_over q m own older ≡ over q m own older
over_is Append m own older = refl
over_is Rewrite m own older = ap (λ x. Some (cond m.cleaned own x)) (elim (is_missed m older) as
    (λ b. cond b [] (entries_within m.floor m.cut older) ++ own ≡ cond b own (entries_within m.floor m.cut older ++ own)) [ true ↦ refl | false ↦ refl ])

kept_barred : (barred : Option (ℕ × ℕ)) (b : Bool) (x y : Option (ℕ × ℕ)) (o : List EntryIndex) → is_barred barred o ≡ true → is_barred (barred_of barred b x y) o ≡ true
kept_barred None b x y o e = cc
kept_barred (Some p) b x y o e = e

later_append : (s s1 : ℕ) (m n : Mark) (t u w o : List EntryIndex) (r c : ℕ) → m.reach ≡ Some r → RisesFrom s o → RisesFrom s1 t →
    FitsRun r c (end_of t) m.reach_floor m.floor m.reach_cut m.barred → LiesWithin n.reach_floor n.reach_cut n.barred
    → over Append n u t ≡ Some w
    → option_and_then (λ v. over Append n u v) (cond (misses (Some r) (end_of (entries_within m.reach_floor m.reach_cut o)) || is_barred m.barred o) None (Some (entries_within m.floor (Some c) o ++ t)))
    ≡ over Append (joined_later Append c (end_of (entries_within n.reach_floor n.reach_cut t)) m n) w o
later_append s s1 m n t u w o r c reach run run1 f f' is = rw reach (go (misses (Some r) (end_of (entries_within m.reach_floor m.reach_cut o))) (is_barred m.barred o) refl refl)
  where
    ok : ((misses n.reach (end_of (entries_within n.reach_floor n.reach_cut t)) || is_barred n.barred t) ≡ false) × (cond n.cleaned u (entries_within n.floor n.cut t ++ u) ≡ w)
    ok = accepted _ _ _ is

    ok2 : (misses n.reach (end_of (entries_within n.reach_floor n.reach_cut t)) ≡ false) × (is_barred n.barred t ≡ false)
    ok2 = or_parts _ _ ok.0

    content : (x : Bool) → cond x u (entries_within n.floor n.cut t ++ u) ≡ w →
        cond x u (entries_within n.floor n.cut (entries_within m.floor (Some c) o ++ t) ++ u) ≡ cond x w
        (entries_within (max m.floor n.floor) (lesser (Some c) n.cut) o ++ w)
    content true e = e
    content false e = rw (within-both, ← e)

    go : (x y : Bool) → misses (Some r) (end_of (entries_within m.reach_floor m.reach_cut o)) ≡ x → is_barred m.barred o ≡ y
        → option_and_then (λ v. over Append n u v) (cond (x || y) None (Some (entries_within m.floor (Some c) o ++ t)))
        ≡ cond (x || is_barred (joined_later Append c (end_of (entries_within n.reach_floor n.reach_cut t)) m n).barred o) None (Some (cond n.cleaned w (entries_within (max m.floor n.floor) (lesser (Some c) n.cut) o ++ w)))
    go true y h k = refl
    go false true h k = rw (kept_barred m.barred
        (is_detached n.reach (end_of (entries_within n.reach_floor n.reach_cut t)) (at_most_bound c n.reach_cut))
        (Some (max m.floor n.reach_floor, at_most_bound c n.reach_cut)) (narrowed_bars m.floor (Some c) n.barred) o k)
    go false false h k = rw (refuses_later s s1 o t r c m.reach_floor m.floor m.reach_cut m.barred n.reach n.reach_floor n.reach_cut n.barred run run1 f f' ok2.0 ok2.1 h k, content n.cleaned ok.1)

pub narrowed_bounds : (d : ℕ) (cut : Option ℕ) → lesser cut (Some d) ≡ Some (at_most_bound d cut)
narrowed_bounds d None = refl
narrowed_bounds d (Some c) = ap (λ x. Some x) (omega arith)

barred_first : (barred : Option (ℕ × ℕ)) (lo : ℕ) (cut : Option ℕ) (o : List EntryIndex) → is_barred barred (entries_within lo cut o) ≡ is_barred (narrowed_bars lo cut barred) o
barred_first None lo cut o = refl
barred_first (Some p) lo cut o = rw (within-within, narrowed_bounds p.1 cut)

barred_nil : (barred : Option (ℕ × ℕ)) → is_barred barred [] ≡ false
barred_nil None = refl
barred_nil (Some p) = rw (within-nil, end_of-nil)

misses_nil : (r : Option ℕ) (l : ℕ) (b : Option ℕ) → misses r (end_of (entries_within l b [])) ≡ false
misses_nil None l b = refl
misses_nil (Some r) l b = rw (within-nil, end_of-nil)

own_alone : (x : Bool) (l : ℕ) (d : Option ℕ) (u : List EntryIndex) → cond x u (entries_within l d [] ++ u) ≡ u
own_alone true l d u = refl
own_alone false l d u = rw within-nil

over_none : (q : LogQueue) (n : Mark) (u : List EntryIndex) → over q n u [] ≡ Some u
over_none Append n u = rw (misses_nil n.reach n.reach_floor n.reach_cut, barred_nil n.barred, own_alone n.cleaned n.floor n.cut u)
over_none Rewrite n u = rw (misses_nil n.reach n.reach_floor n.reach_cut, own_alone n.cleaned n.floor n.cut u)

pub over_nil : (q : LogQueue) (n : Mark) (u : List EntryIndex) → entries_over q n u [] ≡ Some u
over_nil q n u = over_is q n u [] ∙ over_none q n u

first_missed : (m n : Mark) (o : List EntryIndex) → misses n.reach (end_of (entries_within n.reach_floor n.reach_cut (entries_within m.floor m.cut o)))
    ≡ misses n.reach (end_of (entries_within (cond (is_some n.reach) (max m.floor n.reach_floor) m.reach_floor) (cond (is_some n.reach) (lesser m.cut n.reach_cut) m.reach_cut) o))
first_missed m n o = go n.reach
  where
    go : (x : Option ℕ) → misses x (end_of (entries_within n.reach_floor n.reach_cut (entries_within m.floor m.cut o)))
        ≡ misses x (end_of (entries_within (cond (is_some x) (max m.floor n.reach_floor) m.reach_floor) (cond (is_some x) (lesser m.cut n.reach_cut) m.reach_cut) o))
    go None = refl
    go (Some r) = rw within-within

over_first : (q : LogQueue) (m n : Mark) (u o : List EntryIndex) → m.barred ≡ None → over q n u (entries_within m.floor m.cut o ++ []) ≡ over q (joined_first m n) u o
over_first Append m n u o none = rw (append-nil, first_missed m n o, barred_first n.barred m.floor m.cut o, within-within n.floor n.cut m.floor m.cut o, none)
over_first Rewrite m n u o none = rw (append-nil, first_missed m n o, within-within n.floor n.cut m.floor m.cut o)

-- the table alone, of a cleaned region
alone : (q : LogQueue) (x y : Bool) (n : Mark) (t u w v : List EntryIndex) → y ≡ true → over q n u t ≡ Some w
    → option_and_then (λ v. over q n u v) (cond x None (Some (cond y t v))) ≡ cond x None (Some w)
alone q true y n t u w v e is = refl
alone q false y n t u w v e is = rw e is

first_whole : (q : LogQueue) (m n : Mark) (t u w o : List EntryIndex) → t ≡ [] → over q n u (entries_within m.floor m.cut o ++ []) ≡ over q (joined_first m n) u o
    → over q n u t ≡ Some w → over q n u (entries_within m.floor m.cut o ++ t) ≡ over q (joined_first m n) w o
first_whole q m n t u w o e law is = rw (e, law, same_some u w (sym (over_none q n u) ∙ (rw e at is)))

join_append : (m n : Mark) (t u w o : List EntryIndex) → IsRun o → IsRun t → Fits Append m t → Fits Append n u → over Append n u t ≡ Some w
    → option_and_then (λ v. over Append n u v) (over Append m t o) ≡ over Append (joined_at Append (end_of (entries_within n.reach_floor n.reach_cut t)) m n) w o
join_append m n t u w o run run1 f f' is = by_cleaned m.cleaned refl f.uncleaned
  where
    by_run : (x y : Option ℕ) → m.reach ≡ x → m.cut ≡ y → FitsCut x y m t
        → option_and_then (λ v. over Append n u v) (cond (misses x (end_of (entries_within m.reach_floor m.reach_cut o)) || is_barred m.barred o) None (Some (entries_within m.floor y o ++ t)))
        ≡ over Append (joined_uncleaned x y Append (met_at n t) m n) w o
    by_run None y r e h = let none : m.barred ≡ None = f.behind r in rw (ap (λ b. is_barred b o) none, ← e) (first_whole Append m n t u w o h (over_first Append m n u o none) is)
    by_run (Some r) None k e h = absurd h
    by_run (Some r) (Some c) k e h = later_append (start_of o) (start_of t) m n t u w o r c k (rises o run) (rises t run1) h f'.within is

    by_cleaned : (b : Bool) → m.cleaned ≡ b → (b ≡ false → FitsCut m.reach m.cut m t)
        → option_and_then (λ v. over Append n u v) (cond (misses m.reach (end_of (entries_within m.reach_floor m.reach_cut o)) || is_barred m.barred o) None (Some (cond b t (entries_within m.floor m.cut o ++ t))))
        ≡ over Append (cond b m (joined_uncleaned m.reach m.cut Append (met_at n t) m n)) w o
    by_cleaned true e h = rw e (alone Append (misses m.reach (end_of (entries_within m.reach_floor m.reach_cut o)) || is_barred m.barred o) true n t u w [] refl is)
    by_cleaned false e h = by_run m.reach m.cut refl refl (h refl)

-- the rewrite queue: where the newer run meets nothing, nothing is left to be cut
empty_within : (s : ℕ) (es : List EntryIndex) (l lo d : ℕ) (b : Option ℕ) → RisesFrom s es → l ≤ lo → IsNotAbove d b → end_of (entries_within l b es) ≡ 0 → entries_within lo (Some d) es ≡ []
empty_within s es l lo d b run h k z = nil_of_end _ (end_of-part_run s lo (Some d) es run ∙ go b k (sym (end_of-part_run s l b es run) ∙ z))
  where
    go : (b : Option ℕ) → IsNotAbove d b → top s (end_of es) l b ≡ 0 → top s (end_of es) lo (Some d) ≡ 0
    go None k z = grind (arith, nat_tests)
    go (Some c) k z = none_within s (end_of es) l c lo d h k z

at_most_both : (c d : ℕ) (b : Option ℕ) → IsNotAbove d b → IsNotAbove (min c d) (lesser (Some c) b)
at_most_both c d None h = omega arith
at_most_both c d (Some b) h = omega arith

-- the older part o1 and the own table t, met by a newer run: x of t, y of the older part
rewrite_cases : (miss barred : Bool) (y b r : ℕ) (o1 o2 t1 u : List EntryIndex) → (y ≡ 0) ⊎ (y ≡ b)
    → (x : ℕ) → miss ≡ misses (Some r) x → barred ≡ (eqb x 0 && ltb b r) → o2 ≡ [] → (barred ≡ true → y ≡ 0 → o1 ≡ []) → (x ≡ 0 → ltb b r ≡ true → t1 ≡ [])
    → cond (misses (Some r) (cond (eqb x 0) y x)) u (o1 ++ (t1 ++ u)) ≡ cond (barred || miss) o2 o1 ++ cond miss u (t1 ++ u)
rewrite_cases miss barred y b r o1 o2 t1 u h x m k e f g = grind (arith, nat_tests)

pushed_part : (b : Bool) (x y : ℕ) (d : Option ℕ) (o : List EntryIndex) → entries_within (cond b x y) d o ≡ cond b (entries_within x d o) (entries_within y d o)
pushed_part true x y d o = refl
pushed_part false x y d o = refl

not_missed : (s s1 : ℕ) (o t u : List EntryIndex) (n : Mark) (c lo : ℕ) → RisesFrom s o → RisesFrom s1 t → Settled lo c (end_of t) o → (x y : Option ℕ) → FitsCut x y n u
    → cond (misses x (end_of (entries_within n.reach_floor n.reach_cut (entries_within lo (Some c) o ++ t)))) u (entries_within n.floor y (entries_within lo (Some c) o ++ t) ++ u)
    ≡ entries_within (cond (is_detached x (end_of (entries_within n.reach_floor n.reach_cut t)) (at_most_bound c n.reach_cut) || misses x
    (end_of (entries_within n.reach_floor n.reach_cut t))) (max (max lo n.floor) c) (max lo n.floor)) (lesser (Some c) y) o
    ++ cond (misses x (end_of (entries_within n.reach_floor n.reach_cut t))) u (entries_within n.floor y t ++ u)
not_missed s s1 o t u n c lo run run1 st None y f = within-both n.floor y lo (Some c) o t u
not_missed s s1 o t u n c lo run run1 st (Some r) None f = absurd f
not_missed s s1 o t u n c lo run run1 st (Some r) (Some d) f =
    rw (met_list s s1 o t c lo n.reach_floor n.reach_cut run run1 st, within-both, pushed_part)
    (rewrite_cases _ _ _ (at_most_bound c n.reach_cut) r _ _ _ u (at_cut_list s o c (end_of t) lo n.reach_floor n.reach_cut run st) (end_of (entries_within n.reach_floor n.reach_cut t)) refl refl
    (within-empty (max (max lo n.floor) c) (min c d) o (omega arith))
    (λ _ z. empty_within s o (max lo n.reach_floor) (max lo n.floor) (min c d) (lesser (Some c) n.reach_cut) run (omega (arith, f.floor_rises)) (at_most_both c d n.reach_cut f.cut_falls) z)
    (λ z _. empty_within s1 t n.reach_floor n.floor d n.reach_cut run1 f.floor_rises f.cut_falls z))

later_rewrite : (s s1 : ℕ) (m n : Mark) (t u o : List EntryIndex) (r c : ℕ) → m.reach ≡ Some r → RisesFrom s o → RisesFrom s1 t → FitsRun r c (end_of t) m.reach_floor m.floor m.reach_cut m.barred → m.barred ≡ None → Fits Rewrite n u
    → (w : List EntryIndex) → cond n.cleaned u (cond (misses n.reach (end_of (entries_within n.reach_floor n.reach_cut t))) u (entries_within n.floor n.cut t ++ u)) ≡ w
    → over Rewrite n u (cond (misses (Some r) (end_of (entries_within m.reach_floor m.reach_cut o))) t (entries_within m.floor (Some c) o ++ t))
    ≡ over Rewrite (joined_later Rewrite c (end_of (entries_within n.reach_floor n.reach_cut t)) m n) w o
later_rewrite s s1 m n t u o r c reach run run1 f none f' w is = rw reach (ap (λ v. Some v) (by_cleaned n.cleaned refl is))
  where
    by_cleaned : (b : Bool) → n.cleaned ≡ b → cond b u (cond (misses n.reach (met_at n t)) u (entries_within n.floor n.cut t ++ u)) ≡ w
        → cond b u (cond (misses n.reach
        (end_of (entries_within n.reach_floor n.reach_cut
        (cond (misses (Some r) (end_of (entries_within m.reach_floor m.reach_cut o))) t (entries_within m.floor (Some c) o ++ t))))) u
        (entries_within n.floor n.cut (cond (misses (Some r) (end_of (entries_within m.reach_floor m.reach_cut o))) t
        (entries_within m.floor (Some c) o ++ t)) ++ u))
        ≡ cond b w (cond (misses (Some r) (end_of (entries_within m.reach_floor m.reach_cut o))) w
        (entries_within (cond (is_detached n.reach (met_at n t) (at_most_bound c n.reach_cut) || misses n.reach (met_at n t)) (max (max m.floor n.floor) c)
        (max m.floor n.floor)) (lesser (Some c) n.cut) o ++ w))
    by_cleaned true e is = is
    by_cleaned false e is = by_missed (misses (Some r) (end_of (entries_within m.reach_floor m.reach_cut o))) refl
      where
        by_missed : (b : Bool) → misses (Some r) (end_of (entries_within m.reach_floor m.reach_cut o)) ≡ b
            → cond (misses n.reach (end_of (entries_within n.reach_floor n.reach_cut (cond b t (entries_within m.floor (Some c) o ++ t))))) u (entries_within n.floor n.cut (cond b t (entries_within m.floor (Some c) o ++ t)) ++ u)
            ≡ cond b w (entries_within (cond (is_detached n.reach (met_at n t) (at_most_bound c n.reach_cut) || misses n.reach (met_at n t)) (max (max m.floor n.floor) c) (max m.floor n.floor)) (lesser (Some c) n.cut) o ++ w)
        by_missed true h = is
        by_missed false h = not_missed s s1 o t u n c m.floor run run1
            (settled_list s o r c (end_of t) m.reach_floor m.floor m.reach_cut m.barred run f h (rw none)) n.reach n.cut (f'.uncleaned e)
            ∙ ap (λ v. entries_within (cond (is_detached n.reach (met_at n t) (at_most_bound c n.reach_cut) || misses n.reach (met_at n t)) (max (max m.floor n.floor) c)
            (max m.floor n.floor)) (lesser (Some c) n.cut) o ++ v) is

join_rewrite : (m n : Mark) (t u w o : List EntryIndex) → IsRun o → IsRun t → Fits Rewrite m t → Fits Rewrite n u → over Rewrite n u t ≡ Some w
    → option_and_then (λ v. over Rewrite n u v) (over Rewrite m t o) ≡ over Rewrite (joined_at Rewrite (end_of (entries_within n.reach_floor n.reach_cut t)) m n) w o
join_rewrite m n t u w o run run1 f f' is = by_cleaned m.cleaned refl f.uncleaned
  where
    by_run : (x y : Option ℕ) → m.reach ≡ x → m.cut ≡ y → FitsCut x y m t
        → over Rewrite n u (cond (misses x (end_of (entries_within m.reach_floor m.reach_cut o))) t (entries_within m.floor y o ++ t)) ≡ over Rewrite (joined_uncleaned x y Rewrite (met_at n t) m n) w o
    by_run None y r e h = rw (← e) (first_whole Rewrite m n t u w o h (over_first Rewrite m n u o (f.behind r)) is)
    by_run (Some r) None k e h = absurd h
    by_run (Some r) (Some c) k e h = later_rewrite (start_of o) (start_of t) m n t u o r c k (rises o run) (rises t run1) h f.bars f' w (same_some _ _ is)

    by_cleaned : (b : Bool) → m.cleaned ≡ b → (b ≡ false → FitsCut m.reach m.cut m t)
        → over Rewrite n u (cond b t (cond (misses m.reach (end_of (entries_within m.reach_floor m.reach_cut o))) t (entries_within m.floor m.cut o ++ t)))
        ≡ over Rewrite (cond b m (joined_uncleaned m.reach m.cut Rewrite (met_at n t) m n)) w o
    by_cleaned true e h = rw e is
    by_cleaned false e h = by_run m.reach m.cut refl refl (h refl)

join_over : (q : LogQueue) (m n : Mark) (t u w o : List EntryIndex) → IsRun o → IsRun t → Fits q m t → Fits q n u → over q n u t ≡ Some w
    → option_and_then (λ v. over q n u v) (over q m t o) ≡ over q (joined_at q (end_of (entries_within n.reach_floor n.reach_cut t)) m n) w o
join_over Append = join_append
join_over Rewrite = join_rewrite

same_then : {X Y : Type 0} (f g : X → Option Y) (x y : Option X) → x ≡ y → ((v : X) → f v ≡ g v) → option_and_then f x ≡ option_and_then g y
same_then f g None y e h = rw (← e)
same_then f g (Some v) y e h = rw (← e) (h v)

pub join_entries : (q : LogQueue) (m n : Mark) (t u w o : List EntryIndex) → IsRun o → IsRun t → Fits q m t → Fits q n u → entries_over q n u t ≡ Some w
    → option_and_then (λ v. entries_over q n u v) (entries_over q m t o) ≡ entries_over q (joined_at q (end_of (entries_within n.reach_floor n.reach_cut t)) m n) w o
join_entries q m n t u w o run run1 f f' is =
    same_then (λ v. entries_over q n u v) (λ v. over q n u v) _ _ (over_is q m t o) (λ v. over_is q n u v)
    ∙ join_over q m n t u w o run run1 f f' (sym (over_is q n u t) ∙ is)
    ∙ sym (over_is q (joined_at q (end_of (entries_within n.reach_floor n.reach_cut t)) m n) w o)
