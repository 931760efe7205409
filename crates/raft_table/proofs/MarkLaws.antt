-- A mark and a table stand for steps: none, one, and those of two neighbors.
use Rattle.raft_table.proofs.Common.{◌≡◌, ℕ, List, [], ◌∷◌, ◌++◌, Option, Some, None, refl, sym, ap, subst, ◌∙◌, inl, inr, arith, option_and_then, LogQueue, EntryIndex, Step, Run, Compact, Truncate, Put, Del, AtomicGroup, Clean, table_of}
use Rattle.raft_table.proofs.Common.{after_step, after, IsStep, AreSteps, IsTableOf, Table, Mark, entries_over, table_over, table_over_older, AreFromCut, BarsIn, Fits, Stands, joined_mark, fresh, mark_of, own_of, Append, Rewrite, ◌⊎◌, ◌≤◌}
use Rattle.raft_table.proofs.Common.{max, min, Bool, true, false, cond, ◌||◌, is_some, append-nil, nat_tests, RisesFrom, IsRun, end_of, start_of, lesser, entries_within, misses, is_barred, IsNotAbove, IsBelow, LiesWithin, BarsStaying}
use Rattle.raft_table.proofs.Common.{IsBarring, FitsRun, FitsCut, EndsAtCut, at_most_bound, narrowed_bars, is_detached, joined_first, joined_uncleaned, joined_at}
use Rattle.raft_table.proofs.MarkWords.{met_at, end_of-first, top, end_of-part_run, barred_of, bounds}
use Rattle.raft_table.proofs.MarkEntries.{same_some, accepted, over, over_is, over_nil, narrowed_bounds}
use Rattle.raft_table.proofs.FromCutLemmas.{from_none, from_rises, from_first, from_later}
use Rattle.raft_table.proofs.MarkTables.{table-applied, join_applied, one_step, applied_none, applied_fresh}
use Rattle.raft_table.proofs.MarkRuns.{no_table, table_after}
use Rattle.std.proofs.lemmas.Bool.{or_parts}
use Rattle.raft_table.proofs.RunLemmas.{end_of-append, rises}
use Rattle.raft_table.proofs.MarkExact.{clash}

fits_narrowed : (l0 lo : ℕ) (reach_cut cut : Option ℕ) (barred : Option (ℕ × ℕ)) → LiesWithin l0 reach_cut barred → LiesWithin (max lo l0) (lesser cut reach_cut) (narrowed_bars lo cut barred)
fits_narrowed l0 lo reach_cut cut None f = tt
fits_narrowed l0 lo None None (Some p) f = (omega arith, tt)
fits_narrowed l0 lo None (Some c) (Some p) f = (omega arith, omega arith)
fits_narrowed l0 lo (Some t) None (Some p) f = (omega arith, f.1)
fits_narrowed l0 lo (Some t) (Some c) (Some p) f = (omega arith, omega arith)

held_least : (c : ℕ) (d : Option ℕ) → at_most_bound c d ≤ c
held_least c None = omega arith
held_least c (Some d) = omega arith

lower_held : (c e : ℕ) (b : Option ℕ) → e ≤ c → IsNotAbove c b → IsNotAbove e b
lower_held c e None l h = tt
lower_held c e (Some t) l h = omega arith

seated_first : (cut : Option ℕ) (r d e lo : ℕ) (reach_cut : Option ℕ) (barred : Option (ℕ × ℕ)) (l : ℕ) → EndsAtCut d e lo reach_cut r barred →
    EndsAtCut (at_most_bound d cut) e (max l lo) (lesser cut reach_cut) r (narrowed_bars l cut barred)
seated_first cut r d e lo reach_cut barred l (inl h) = inl h
seated_first cut r d e lo reach_cut barred l (inr (inl h)) = inr (inl (omega (arith, held_least d cut)))
seated_first cut r d e lo reach_cut barred l (inr (inr (inl h))) = inr (inr (inl (omega (arith, held_least d cut))))
seated_first cut r d e lo reach_cut barred l (inr (inr (inr (inl h)))) = inr (inr (inr (inl (least cut reach_cut h))))
  where
    least : (cut reach_cut : Option ℕ) → IsBelow reach_cut r → IsBelow (lesser cut reach_cut) r
    least cut None h = absurd h
    least None (Some t) h = h
    least (Some c) (Some t) h = omega arith
seated_first cut r d e lo reach_cut None l (inr (inr (inr (inr h)))) = absurd h
seated_first cut r d e lo reach_cut (Some p) l (inr (inr (inr (inr h)))) = inr (inr (inr (inr tt)))

fits_run_first : (cut : Option ℕ) (r d e reach_floor lo : ℕ) (reach_cut : Option ℕ) (barred : Option (ℕ × ℕ)) (l : ℕ) → FitsRun r d e reach_floor lo reach_cut barred
    → FitsRun r (at_most_bound d cut) e (max l reach_floor) (max l lo) (lesser cut reach_cut) (narrowed_bars l cut barred)
fits_run_first cut r d e reach_floor lo reach_cut barred l f = record {
  cut_first = (elim cut as (λ cut. at_most_bound d cut ≤ r) [ None ↦ f.cut_first | Some c ↦ omega (arith, f.cut_first) ]);
  floor_rises = omega (arith, f.floor_rises);
  cut_falls = falls cut reach_cut f.cut_falls;
  covers = cover cut barred f.covers;
  seated = seated_first cut r d e lo reach_cut barred l f.seated;
}
  where
    falls : (cut reach_cut : Option ℕ) → IsNotAbove d reach_cut → IsNotAbove (at_most_bound d cut) (lesser cut reach_cut)
    falls None reach_cut h = h
    falls (Some c) None h = omega arith
    falls (Some c) (Some t) h = omega arith

    cover : (cut : Option ℕ) (barred : Option (ℕ × ℕ)) → BarsStaying barred lo d → BarsStaying (narrowed_bars l cut barred) (max l lo) (at_most_bound d cut)
    cover cut None h = tt
    cover None (Some p) h = (omega arith, h.1)
    cover (Some c) (Some p) h = (omega arith, omega arith)

-- where the older mark has no run
fits_first : (q : LogQueue) (m n : Mark) (u : List EntryIndex) → m.barred ≡ None → Fits q n u → Fits q (joined_first m n) u
fits_first q m n u none f = record {
  bars = rw none (bars q n.barred f.bars);
  behind = λ e. rw (none, f.behind e) refl;
  within = rw none (within n.reach f.behind);
  uncleaned = λ e. uncleaned n.reach n.cut refl (f.uncleaned e);
  from_cut = λ e. from_first m.cut n.cut n.reach n u (f.uncleaned e) (f.from_cut e);
}
  where
    bars : (q : LogQueue) (barred : Option (ℕ × ℕ)) → BarsIn q barred → BarsIn q (narrowed_bars m.floor m.cut barred)
    bars Append barred h = tt
    bars Rewrite None h = refl
    bars Rewrite (Some p) h = cc

    within : (x : Option ℕ) → (x ≡ None → n.barred ≡ None) → LiesWithin (cond (is_some x) (max m.floor n.reach_floor) m.reach_floor) (cond (is_some x) (lesser m.cut n.reach_cut) m.reach_cut) (narrowed_bars m.floor m.cut n.barred)
    within None h = rw (h refl) tt
    within (Some r) h = fits_narrowed n.reach_floor m.floor n.reach_cut m.cut n.barred f.within

    uncleaned : (x y : Option ℕ) → n.reach ≡ x → FitsCut x y n u → FitsCut x (lesser m.cut y) (joined_first m n) u
    uncleaned None y e h = h
    uncleaned (Some r) None e h = absurd h
    uncleaned (Some r) (Some d) e h = rw (e, none, narrowed_bounds d m.cut) (fits_run_first m.cut r d (end_of u) n.reach_floor n.floor n.reach_cut n.barred m.floor h)

-- a part of a run that was at or above the cut c stays so, or is empty
still_above : (s e l c : ℕ) (d : Option ℕ) → c ≤ e → (top s e l d ≡ 0) ⊎ (at_most_bound c d ≤ top s e l d)
still_above s e l c None h = grind (arith, nat_tests)
still_above s e l c (Some d) h = grind (arith, nat_tests)

-- the older table's part of the joined one
seat_older : (s e r c lo lo' l : ℕ) (d reach_cut : Option ℕ) (barred barred' : Option (ℕ × ℕ)) → lo ≤ lo' → (IsBarring barred → IsBarring barred') →
    EndsAtCut c e lo reach_cut r barred → EndsAtCut (at_most_bound c d) (top s e l d) lo' reach_cut r barred'
seat_older s e r c lo lo' l d reach_cut barred barred' h k (inl z) = inl (nothing d)
  where
    nothing : (d : Option ℕ) → top s e l d ≡ 0
    nothing None = grind (arith, nat_tests)
    nothing (Some d) = grind (arith, nat_tests)
seat_older s e r c lo lo' l d reach_cut barred barred' h k (inr (inl z)) = elim (still_above s e l c d z) [ inl a ↦ inl a | inr a ↦ inr (inl a) ]
seat_older s e r c lo lo' l d reach_cut barred barred' h k (inr (inr (inl z))) = inr (inr (inl (omega (arith, held_least c d))))
seat_older s e r c lo lo' l d reach_cut barred barred' h k (inr (inr (inr (inl z)))) = inr (inr (inr (inl z)))
seat_older s e r c lo lo' l d reach_cut barred barred' h k (inr (inr (inr (inr z)))) = inr (inr (inr (inr (k z))))

-- and with the newer table behind it, which ends at e
seat_more : (c x e lo r : ℕ) (reach_cut : Option ℕ) (barred : Option (ℕ × ℕ)) → e ≡ 0 → EndsAtCut c x lo reach_cut r barred → EndsAtCut c (max x e) lo reach_cut r barred
seat_more c x e lo r reach_cut barred z h = let k : max x e ≡ x = omega arith in rw k h

seat_newer : (c x e lo r d l r' : ℕ) (reach_cut b : Option ℕ) (barred barred' : Option (ℕ × ℕ)) → l ≤ lo → (IsBarring barred' → IsBarring barred) → (IsBelow b r' → (min c d ≤ lo) ⊎ IsBarring barred)
    → (e ≡ 0 → EndsAtCut (min c d) x lo reach_cut r barred) → EndsAtCut d e l b r' barred' → EndsAtCut (min c d) (max x e) lo reach_cut r barred
seat_newer c x e lo r d l r' reach_cut b barred barred' h k m f (inl z) = seat_more (min c d) x e lo r reach_cut barred z (f z)
seat_newer c x e lo r d l r' reach_cut b barred barred' h k m f (inr (inl z)) = inr (inl (omega arith))
seat_newer c x e lo r d l r' reach_cut b barred barred' h k m f (inr (inr (inl z))) = inr (inr (inl (omega arith)))
seat_newer c x e lo r d l r' reach_cut b barred barred' h k m f (inr (inr (inr (inl z)))) = elim (m z) [ inl a ↦ inr (inr (inl a)) | inr a ↦ inr (inr (inr (inr a))) ]
seat_newer c x e lo r d l r' reach_cut b barred barred' h k m f (inr (inr (inr (inr z)))) = inr (inr (inr (inr (k z))))

end_of-both_parts : (s : ℕ) (l : ℕ) (d : Option ℕ) (t u : List EntryIndex) → RisesFrom s t → end_of (entries_within l d t ++ u) ≡ max (top s (end_of t) l d) (end_of u)
end_of-both_parts s l d t u run = end_of-append (entries_within l d t) u ∙ (rw (end_of-part_run s l d t run))

still_barring : (barred : Option (ℕ × ℕ)) (b : Bool) (x y : Option (ℕ × ℕ)) → IsBarring barred → IsBarring (barred_of barred b x y)
still_barring None b x y h = absurd h
still_barring (Some p) b x y h = tt

newly_barring : (barred : Option (ℕ × ℕ)) (b : Bool) (p : ℕ × ℕ) (lo : ℕ) (cut : Option ℕ) (y : Option (ℕ × ℕ)) → IsBarring y → IsBarring (barred_of barred b (Some p) (narrowed_bars lo cut y))
newly_barring (Some q) b p lo cut y h = tt
newly_barring None true p lo cut y h = tt
newly_barring None false p lo cut None h = absurd h
newly_barring None false p lo cut (Some y) h = tt

barring_now : (barred : Option (ℕ × ℕ)) (b : Bool) (p : ℕ × ℕ) (y : Option (ℕ × ℕ)) → b ≡ true → IsBarring (barred_of barred b (Some p) y)
barring_now (Some q) b p y e = tt
barring_now None true p y e = tt
barring_now None false p y e = cc

-- the newer run is barred out where it is not refused over a table that ends below it
apart_there : (r x c : ℕ) (b : Option ℕ) → x ≤ at_most_bound r b → IsBelow b r → misses (Some r) x ≡ false → is_detached (Some r) x (at_most_bound c b) ≡ true
apart_there r x c None h below ok = absurd below
apart_there r x c (Some b) h below ok = grind (arith, nat_tests)

top_held : (s e l r : ℕ) (b : Option ℕ) → IsBelow b r → top s e l b ≤ at_most_bound r b
top_held s e l r None h = absurd h
top_held s e l r (Some b) h = grind (arith, nat_tests)

meets_within : (l0 lo c : ℕ) (reach_cut : Option ℕ) (barred : Option (ℕ × ℕ)) (x : Bool) (l : ℕ) (b : Option ℕ) (barred' : Option (ℕ × ℕ)) → LiesWithin l0 reach_cut barred → l0 ≤ lo → IsNotAbove c reach_cut
    → LiesWithin l0 reach_cut (barred_of barred x (Some (max lo l, at_most_bound c b)) (narrowed_bars lo (Some c) barred'))
meets_within l0 lo c reach_cut (Some p) x l b barred' f h k = f
meets_within l0 lo c reach_cut None true l b barred' f h k = (omega arith, lower_held c (at_most_bound c b) reach_cut (held_least c b) k)
meets_within l0 lo c reach_cut None false l b None f h k = tt
meets_within l0 lo c reach_cut None false l b (Some p) f h k = (omega arith, lower_held c (min p.1 c) reach_cut (omega arith) k)

covers_later : (lo c : ℕ) (barred : Option (ℕ × ℕ)) (x : Bool) (l0 : ℕ) (b : Option ℕ) (barred' : Option (ℕ × ℕ)) (l d : ℕ) → BarsStaying barred lo c → BarsStaying barred' l d → l0 ≤ l → IsNotAbove d b
    → BarsStaying (barred_of barred x (Some (max lo l0, at_most_bound c b)) (narrowed_bars lo (Some c) barred')) (max lo l) (min c d)
covers_later lo c (Some p) x l0 b barred' l d f f' h k = (omega arith, omega arith)
covers_later lo c None true l0 b barred' l d f f' h k = (omega arith, ((elim b as (λ b. IsNotAbove d b → min c d ≤ at_most_bound c b) [ None ↦ λ k. omega arith | Some b ↦ λ k. omega arith ]) k))
covers_later lo c None false l0 b None l d f f' h k = tt
covers_later lo c None false l0 b (Some p) l d f f' h k = (omega arith, omega arith)

-- in the append queue, where the newer mark has a run
fits_later_append : (s1 : ℕ) (n : Mark) (t u : List EntryIndex) (r c reach_floor lo : ℕ) (reach_cut : Option ℕ) (barred : Option (ℕ × ℕ)) (r' d : ℕ) → RisesFrom s1 t → FitsRun r c (end_of t) reach_floor lo reach_cut barred
    → FitsRun r' d (end_of u) n.reach_floor n.floor n.reach_cut n.barred → misses (Some r') (end_of (entries_within n.reach_floor n.reach_cut t)) ≡ false
    → FitsRun r (min c d) (end_of (entries_within n.floor (Some d) t ++ u)) reach_floor (max lo n.floor) reach_cut
    (barred_of barred (is_detached (Some r') (end_of (entries_within n.reach_floor n.reach_cut t)) (at_most_bound c n.reach_cut))
    (Some (max lo n.reach_floor, at_most_bound c n.reach_cut)) (narrowed_bars lo (Some c) n.barred))
fits_later_append s1 n t u r c reach_floor lo reach_cut barred r' d run1 f f' ok = record {
  cut_first = omega (arith, f.cut_first);
  floor_rises = omega (arith, f.floor_rises);
  cut_falls = lower_held c (min c d) reach_cut (omega arith) f.cut_falls;
  covers = covers_later lo c barred _ n.reach_floor n.reach_cut n.barred n.floor d f.covers f'.covers f'.floor_rises f'.cut_falls;
  seated = rw (end_of-both_parts s1 n.floor (Some d) t u run1)
      (seat_newer c (top s1 (end_of t) n.floor (Some d)) (end_of u) (max lo n.floor) r d n.floor r' reach_cut n.reach_cut _ n.barred (omega arith)
      (newly_barring barred _ _ lo (Some c) n.barred)
      (λ below. inr (barring_now barred _ _ _ (apart_there r' _ c n.reach_cut (rw (end_of-part_run s1 n.reach_floor n.reach_cut t run1) (top_held s1 (end_of t) n.reach_floor r' n.reach_cut below)) below ok)))
      (λ _. seat_older s1 (end_of t) r c lo (max lo n.floor) n.floor (Some d) reach_cut barred _ (omega arith)
      (still_barring barred (is_detached (Some r') (end_of (entries_within n.reach_floor n.reach_cut t)) (at_most_bound c n.reach_cut))
      (Some (max lo n.reach_floor, at_most_bound c n.reach_cut)) (narrowed_bars lo (Some c) n.barred)) f.seated)
      f'.seated);
}

covers_less : (barred : Option (ℕ × ℕ)) (x : Option (ℕ × ℕ)) (lo c lo' c' : ℕ) → lo ≤ lo' → c' ≤ c → BarsStaying barred lo c → BarsStaying (barred_of barred false x None) lo' c'
covers_less None x lo c lo' c' h k f = tt
covers_less (Some p) x lo c lo' c' h k f = (omega arith, omega arith)

-- where the newer mark has no run
fits_later_no_run : (s1 l : ℕ) (d : Option ℕ) (t u : List EntryIndex) (r c reach_floor lo : ℕ) (reach_cut : Option ℕ) (barred : Option (ℕ × ℕ))
    (x : Option (ℕ × ℕ)) → RisesFrom s1 t → FitsRun r c (end_of t) reach_floor lo reach_cut barred → u ≡ []
    → FitsRun r (at_most_bound c d) (end_of (entries_within l d t ++ u)) reach_floor (max lo l) reach_cut (barred_of barred false x None)
fits_later_no_run s1 l d t u r c reach_floor lo reach_cut barred x run1 f none = record {
  cut_first = omega (arith, f.cut_first, held_least c d);
  floor_rises = omega (arith, f.floor_rises);
  cut_falls = lower_held c (at_most_bound c d) reach_cut (held_least c d) f.cut_falls;
  covers = covers_less barred x lo c (max lo l) (at_most_bound c d) (omega arith) (held_least c d) f.covers;
  seated = rw (none, append-nil, end_of-part_run s1 l d t run1) (seat_older s1 (end_of t) r c lo (max lo l) l d reach_cut barred (barred_of barred false x None) (omega arith) (still_barring barred false x None) f.seated);
}

fits_later_rewrite : (s1 : ℕ) (n : Mark) (t u : List EntryIndex) (r c reach_floor lo : ℕ) (reach_cut : Option ℕ) (r' d : ℕ) → RisesFrom s1 t → FitsRun r c (end_of t) reach_floor lo reach_cut None
    → FitsRun r' d (end_of u) n.reach_floor n.floor n.reach_cut None
    → FitsRun r (min c d) (end_of (cond (misses (Some r') (end_of (entries_within n.reach_floor n.reach_cut t))) u (entries_within n.floor (Some d) t ++ u))) reach_floor
    (cond (is_detached (Some r') (end_of (entries_within n.reach_floor n.reach_cut t)) (at_most_bound c n.reach_cut) || misses (Some r')
    (end_of (entries_within n.reach_floor n.reach_cut t))) (max (max lo n.floor) c) (max lo n.floor)) reach_cut None
fits_later_rewrite s1 n t u r c reach_floor lo reach_cut r' d run1 f f' = record {
  cut_first = omega (arith, f.cut_first);
  floor_rises = (elim (is_detached (Some r') (end_of (entries_within n.reach_floor n.reach_cut t)) (at_most_bound c n.reach_cut) || misses (Some r') (end_of (entries_within n.reach_floor n.reach_cut t))) as
      (λ b. reach_floor ≤ cond b (max (max lo n.floor) c) (max lo n.floor)) [ true ↦ omega (arith, f.floor_rises) | false ↦ omega (arith, f.floor_rises) ]);
  cut_falls = lower_held c (min c d) reach_cut (omega arith) f.cut_falls;
  covers = tt;
  seated = seat (misses (Some r') (end_of (entries_within n.reach_floor n.reach_cut t))) (is_detached (Some r') (end_of (entries_within n.reach_floor n.reach_cut t)) (at_most_bound c n.reach_cut)) refl refl;
}
  where
    seat : (miss barred : Bool) → misses (Some r') (end_of (entries_within n.reach_floor n.reach_cut t)) ≡ miss → is_detached (Some r') (end_of (entries_within n.reach_floor n.reach_cut t)) (at_most_bound c n.reach_cut) ≡ barred
        → EndsAtCut (min c d) (end_of (cond miss u (entries_within n.floor (Some d) t ++ u))) (cond (barred || miss) (max (max lo n.floor) c) (max lo n.floor)) reach_cut r None
    seat true true h k = inr (inr (inl (omega arith)))
    seat true false h k = inr (inr (inl (omega arith)))
    seat false true h k = inr (inr (inl (omega arith)))
    seat false false h k = rw (end_of-both_parts s1 n.floor (Some d) t u run1)
        (seat_newer c (top s1 (end_of t) n.floor (Some d)) (end_of u) (max lo n.floor) r d n.floor r' reach_cut n.reach_cut None None (omega arith) (λ z. z)
        (λ below. absurd (both k (apart_there r' _ c n.reach_cut (rw (end_of-part_run s1 n.reach_floor n.reach_cut t run1) (top_held s1 (end_of t) n.reach_floor r' n.reach_cut below)) below h)))
        (λ _. seat_older s1 (end_of t) r c lo (max lo n.floor) n.floor (Some d) reach_cut None None (omega arith) (λ z. z) f.seated)
        f'.seated)
      where
        both : {b : Bool} → b ≡ false → b ≡ true → ⊥
        both x y = cc

first_table : (q : LogQueue) (n : Mark) (t u w : List EntryIndex) → t ≡ [] → over q n u t ≡ Some w → u ≡ w
first_table q n t u w e is = same_some u w (sym (over_nil q n u) ∙ over_is q n u [] ∙ (rw e at is))

fits_join_append : (m n : Mark) (t u w : List EntryIndex) → IsRun t → Fits Append m t → Fits Append n u → over Append n u t ≡ Some w → Fits Append (joined_at Append (end_of (entries_within n.reach_floor n.reach_cut t)) m n) w
fits_join_append m n t u w run f f' is = (elim m.cleaned as (λ b. m.cleaned ≡ b → (b ≡ false → FitsCut m.reach m.cut m t) → Fits Append (cond b m (joined_uncleaned m.reach m.cut Append (met_at n t) m n)) w)
    [ true ↦ λ e h. record { bars = tt; behind = f.behind; within = f.within; uncleaned = λ x. clash e x; from_cut = λ x. clash e x } | false ↦ λ e h. by_run m.reach m.cut refl refl (h refl) (f.from_cut e) ]) refl f.uncleaned
  where
    ok : ((misses n.reach (met_at n t) || is_barred n.barred t) ≡ false) × (cond n.cleaned u (entries_within n.floor n.cut t ++ u) ≡ w)
    ok = accepted _ _ _ is

    ok2 : (misses n.reach (met_at n t) ≡ false) × (is_barred n.barred t ≡ false)
    ok2 = or_parts _ _ ok.0

    later : (r c : ℕ) → FitsRun r c (end_of t) m.reach_floor m.floor m.reach_cut m.barred → (x y : Option ℕ) → misses x (met_at n t) ≡ false → FitsCut x y n u → (x ≡ None → n.barred ≡ None) → entries_within n.floor y t ++ u ≡ w
        → FitsRun r (at_most_bound c y) (end_of w) m.reach_floor (max m.floor n.floor) m.reach_cut
        (barred_of m.barred (is_detached x (met_at n t) (at_most_bound c n.reach_cut)) (Some (max m.floor n.reach_floor, at_most_bound c n.reach_cut))
        (narrowed_bars m.floor (Some c) n.barred))
    later r c h None y miss k b v = rw (← v, b refl) (fits_later_no_run (start_of t) n.floor y t u r c m.reach_floor m.floor m.reach_cut m.barred (Some (max m.floor n.reach_floor, at_most_bound c n.reach_cut)) (rises t run) h k)
    later r c h (Some x) None miss k b v = absurd k
    later r c h (Some x) (Some d) miss k b v = rw (← v) (fits_later_append (start_of t) n t u r c m.reach_floor m.floor m.reach_cut m.barred x d (rises t run) h k miss)

    by_run : (x y : Option ℕ) → m.reach ≡ x → m.cut ≡ y → FitsCut x y m t → AreFromCut y t → Fits Append (joined_uncleaned x y Append (met_at n t) m n) w
    by_run None y r e h l = subst (λ v. Fits Append (joined_first m n) v) (first_table Append n t u w h is) (fits_first Append m n u (f.behind r) f')
    by_run (Some r) None k e h l = absurd h
    by_run (Some r) (Some c) k e h l = record {
      bars = tt;
      behind = λ none. let n : ◌≡◌ {A = Option ℕ} (Some r) None = sym k ∙ none in absurd cc;
      within = meets_within m.reach_floor m.floor c m.reach_cut m.barred _ n.reach_floor n.reach_cut n.barred f.within h.floor_rises h.cut_falls;
      uncleaned = λ clean. rw (k, bounds c n.cut) (later r c h n.reach n.cut ok2.0 (f'.uncleaned clean) f'.behind (rw clean at ok.1));
      from_cut = λ clean. from_later c n.floor n.cut n.reach n t u w n.cleaned l (f'.uncleaned clean) (f'.from_cut clean) ok.1;
    }

fits_join_rewrite : (m n : Mark) (t u w : List EntryIndex) → IsRun t → Fits Rewrite m t → Fits Rewrite n u → over Rewrite n u t ≡ Some w → Fits Rewrite (joined_at Rewrite (end_of (entries_within n.reach_floor n.reach_cut t)) m n) w
fits_join_rewrite m n t u w run f f' is = (elim m.cleaned as (λ b. m.cleaned ≡ b → (b ≡ false → FitsCut m.reach m.cut m t) → Fits Rewrite (cond b m (joined_uncleaned m.reach m.cut Rewrite (met_at n t) m n)) w)
    [ true ↦ λ e h. record { bars = f.bars; behind = f.behind; within = f.within; uncleaned = λ x. clash e x; from_cut = λ x. clash e x } | false ↦ λ e h. by_run m.reach m.cut refl refl (h refl) (f.from_cut e) ]) refl f.uncleaned
  where
    ok : cond n.cleaned u (cond (misses n.reach (met_at n t)) u (entries_within n.floor n.cut t ++ u)) ≡ w
    ok = same_some _ _ is

    later : (r c : ℕ) → FitsRun r c (end_of t) m.reach_floor m.floor m.reach_cut None → (x y : Option ℕ) → FitsCut x y n u → cond (misses x (met_at n t)) u (entries_within n.floor y t ++ u) ≡ w
        → FitsRun r (at_most_bound c y) (end_of w) m.reach_floor (cond (is_detached x (met_at n t) (at_most_bound c n.reach_cut) || misses x (met_at n t)) (max (max m.floor n.floor) c) (max m.floor n.floor)) m.reach_cut None
    later r c h None y k v = rw (← v) (fits_later_no_run (start_of t) n.floor y t u r c m.reach_floor m.floor m.reach_cut None None (rises t run) h k)
    later r c h (Some x) None k v = absurd k
    later r c h (Some x) (Some d) k v = rw (← v) (fits_later_rewrite (start_of t) n t u r c m.reach_floor m.floor m.reach_cut x d (rises t run) h (rw f'.bars at k))

    by_run : (x y : Option ℕ) → m.reach ≡ x → m.cut ≡ y → FitsCut x y m t → AreFromCut y t → Fits Rewrite (joined_uncleaned x y Rewrite (met_at n t) m n) w
    by_run None y r e h l = subst (λ v. Fits Rewrite (joined_first m n) v) (first_table Rewrite n t u w h is) (fits_first Rewrite m n u (f.behind r) f')
    by_run (Some r) None k e h l = absurd h
    by_run (Some r) (Some c) k e h l = record {
      bars = f.bars;
      behind = f.behind;
      within = f.within;
      uncleaned = λ clean. rw (k, bounds c n.cut, f.bars) (later r c (rw f.bars at h) n.reach n.cut (f'.uncleaned clean) (rw clean at ok));
      from_cut = λ clean. from_later c n.floor n.cut n.reach n t u w (misses n.reach (met_at n t)) l (f'.uncleaned clean) (f'.from_cut clean) (rw clean at ok);
    }

pub fits_join : (q : LogQueue) (m n : Mark) (t u w : List EntryIndex) → IsRun t → Fits q m t → Fits q n u → entries_over q n u t ≡ Some w → Fits q (joined_at q (end_of (entries_within n.reach_floor n.reach_cut t)) m n) w
fits_join Append m n t u w run f f' is = fits_join_append m n t u w run f f' (sym (over_is Append n u t) ∙ is)
fits_join Rewrite m n t u w run f f' is = fits_join_rewrite m n t u w run f f' (sym (over_is Rewrite n u t) ∙ is)

pub entries-over_table : (q : LogQueue) (m : Mark) (t o w : Table) → table_over q m t o ≡ Some w → entries_over q m t.entries o.entries ≡ Some w.entries
entries-over_table q m t o w is = go (entries_over q m t.entries o.entries) refl
  where
    go : (x : Option (List EntryIndex)) → entries_over q m t.entries o.entries ≡ x → entries_over q m t.entries o.entries ≡ Some w.entries
    go None e = let n : ◌≡◌ {A = Option Table} None (Some w) = rw e at is in absurd cc
    go (Some es) e = e ∙ ap (λ (t : Table). Some t.entries) (same_some _ w (rw e at is))

pub after-append : (q : LogQueue) (id : ℕ) (o : Option Table) (ss rs : List Step) → after q id o (ss ++ rs) ≡ option_and_then (λ u. after q id u rs) (after q id o ss)
after-append q id o [] rs = refl
after-append q id o (s ∷ ss) rs = go (λ u. after-append q id u ss rs) (after_step q (table_of id o) s)
  where
    go : ((u : Option Table) → after q id u (ss ++ rs) ≡ option_and_then (λ u. after q id u rs) (after q id u ss)) → (x : Option (Option Table)) →
        option_and_then (λ u. after q id u (ss ++ rs)) x ≡ option_and_then (λ u. after q id u rs) (option_and_then (λ u. after q id u ss) x)
    go ih None = refl
    go ih (Some u) = ih u

one_after : (q : LogQueue) (id : ℕ) (o : Option Table) (s : Step) → after q id o (s ∷ []) ≡ after_step q (table_of id o) s
one_after q id o s = elim (after_step q (table_of id o) s) as (λ x. option_and_then (λ u. Some u) x ≡ x) [ None ↦ refl | Some u ↦ refl ]

bars_none : (q : LogQueue) → BarsIn q None
bars_none Append = tt
bars_none Rewrite = refl

fits_no_run : (q : LogQueue) (m : Mark) (t : List EntryIndex) → m.reach ≡ None → m.barred ≡ None → t ≡ [] → Fits q m t
fits_no_run q m t e b none = record {
  bars = rw b (bars_none q);
  behind = λ _. b;
  within = rw b tt;
  uncleaned = λ _. rw e none;
  from_cut = λ _. subst (AreFromCut m.cut) (sym none) (from_none m.cut);
}

fits_one : (q : LogQueue) (id : ℕ) (s : Step) → IsStep s → Fits q (mark_of s) (table_of id (own_of id s)).entries
fits_one q id (Run []) good = fits_no_run q _ _ refl refl refl
fits_one q id (Run (x ∷ run)) good = record {
  bars = bars_none q;
  behind = λ _. refl;
  within = tt;
  uncleaned = λ _. record { cut_first = omega arith; floor_rises = omega arith; cut_falls = tt; covers = tt; seated = inr (inl (omega (arith, end_of-first x run))) };
  from_cut = λ _. from_rises x.index (x ∷ run) (refl, good);
}
fits_one q id (Compact i) good = fits_no_run q _ _ refl refl refl
fits_one q id (Truncate i) good = fits_no_run q _ _ refl refl refl
fits_one q id (Put key value file) good = fits_no_run q _ _ refl refl refl
fits_one q id (Del key) good = fits_no_run q _ _ refl refl refl
fits_one q id (AtomicGroup first_seq last_seq) good = fits_no_run q _ _ refl refl refl
fits_one q id Clean good = fits_no_run q _ _ refl refl refl

table_one : (id : ℕ) (s : Step) → IsStep s → IsTableOf id (table_of id (own_of id s))
table_one id (Run run) good = record { region = refl; run = good }
table_one id (Compact i) good = no_table id
table_one id (Truncate i) good = no_table id
table_one id (Put key value file) good = record { region = refl; run = (no_table id).run }
table_one id (Del key) good = no_table id
table_one id (AtomicGroup first_seq last_seq) good = record { region = refl; run = (no_table id).run }
table_one id Clean good = no_table id

pub stands_fresh : (q : LogQueue) (id : ℕ) → Stands q id fresh None []
stands_fresh q id = record {
  own_table = no_table id;
  fits = fits_no_run q fresh [] refl refl refl;
  every = λ o h. sym (applied_fresh q id o);
}

pub stands_one : (q : LogQueue) (id : ℕ) (s : Step) → IsStep s → Stands q id (mark_of s) (own_of id s) (s ∷ [])
stands_one q id s good = record {
  own_table = table_one id s good;
  fits = fits_one q id s good;
  every = λ o h. one_after q id o s ∙ sym (one_step q id s o);
}

pub stands_join : (q : LogQueue) (id : ℕ) (m n : Mark) (t u w : Option Table) (ss rs : List Step) → AreSteps ss → AreSteps rs → Stands q id m t ss →
    Stands q id n u rs → table_over_older q id n u t ≡ Some w → Stands q id (joined_mark q id m t n) w (ss ++ rs)
stands_join q id m n t u w ss rs good good' h k is = record {
  own_table = table_after q id t w rs good' h.own_table (k.every t h.own_table ∙ is);
  fits = fits_join q m n (table_of id t).entries (table_of id u).entries (table_of id w).entries h.own_table.run h.fits k.fits
      (entries-over_table q n (table_of id u) (table_of id t) (table_of id w) (table-applied q id n u t w h.own_table is).0);
  every = λ o r. after-append q id o ss rs ∙ inner o r (after q id o ss) refl ∙ (rw (h.every o r) (join_applied q id m n t u w o h.fits k.fits h.own_table r is));
}
  where
    inner : (o : Option Table) → IsTableOf id (table_of id o) → (x : Option (Option Table)) → after q id o ss ≡ x → option_and_then (λ v. after q id v rs) x ≡ option_and_then (λ v. table_over_older q id n u v) x
    inner o r None e = refl
    inner o r (Some v) e = k.every v (table_after q id o v ss good r e)

-- the own table is what one reading of the steps gives
pub stands_alone : (q : LogQueue) (id : ℕ) (m : Mark) (t : Option Table) (ss : List Step) → Stands q id m t ss → after q id None ss ≡ Some t
stands_alone q id m t ss h = h.every None (no_table id) ∙ applied_none q id m t h.own_table.region

-- a step that the own table refuses is refused in one reading
pub refused_step : (q : LogQueue) (id : ℕ) (m : Mark) (t : Option Table) (ss : List Step) (s : Step) → Stands q id m t ss → after_step q (table_of id t) s ≡ None → after q id None (ss ++ s ∷ []) ≡ None
refused_step q id m t ss s h is = after-append q id None ss (s ∷ []) ∙ ap (option_and_then (λ u. after q id u (s ∷ []))) (stands_alone q id m t ss h) ∙ one_after q id t s ∙ is

-- a meeting that is refused is refused in one reading
pub refused_join : (q : LogQueue) (id : ℕ) (m n : Mark) (t u : Option Table) (ss rs : List Step) → Stands q id m t ss → Stands q id n u rs → table_over_older q id n u t ≡ None → after q id None (ss ++ rs) ≡ None
refused_join q id m n t u ss rs h k is = after-append q id None ss rs ∙ (rw (stands_alone q id m t ss h) (k.every t h.own_table ∙ is))
