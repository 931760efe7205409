-- Items that are read into the marks and tables of all regions.
use Rattle.raft_history.proofs.Common.{map_none, map_some, option_and_then_some, or-false, then_none, some_is, ◌≡◌, ◌⊎◌, ℕ, Bool, true, false, cond, eqb, ◌||◌, List, [], ◌∷◌, ◌++◌, Option, Some, None, refl, sym, ap, subst, ◌∙◌, inl, inr}
use Rattle.raft_history.proofs.Common.{append_assoc, append-nil, is_some, option_map, option_and_then, LogQueue, table_over_older, joined_mark, end_at_reach, fresh, mark_of, own_of, HoldsDeleted, IsExactMark, Step, AtomicGroup, IsStep}
use Rattle.raft_history.proofs.Common.{AreSteps, after_step, after, table_of, Table, after-append, stands_fresh, stands_one, stands_join, refused_step, one_step, joined_parts, union_empty, holds_one, exact_one, holds_join, exact_join}
use Rattle.raft_history.proofs.Common.{RegionStandsFor, whole_steps, steps_of_wholes, MarkedRegions, MarkedRegion, region_in, with_region, stepped_region, regions_after, named_regions, on_each, region_steps_of_whole, region_steps_of_wholes}
use Rattle.raft_history.proofs.Common.{joined_region, RegionStep, names, steps_on, WholeGroup}
use Rattle.std.specs.FinMap as finite
use Rattle.raft_history.proofs.MapLemmas.{IsOther, by_region, held_own, held_other, marked_with}
use Rattle.raft_history.proofs.StepListLemmas.{eqb_self, names_cons, names_none, own-append, own_cons, own_first, own_head, own_none, own_nothing, own_other, steps-append, steps_left, steps_right}

-- ---- wholes

own-spans : (r : ℕ) (s : Step) (is : List RegionStep) → steps_on r (on_each (named_regions is) s) ≡ cond (names r is) (s ∷ []) []
own-spans r s [] = own_none r ∙ sym (ap (λ b. cond b (s ∷ []) []) (names_none r))
own-spans r s (i ∷ is) = go (names i.region is) refl (by_region r i.region) (own-spans r s is)
  where
    go : (b : Bool) → names i.region is ≡ b → (r ≡ i.region) ⊎ IsOther r i.region → steps_on r (on_each (named_regions is) s) ≡ cond (names r is) (s ∷ []) []
        → steps_on r (on_each (cond b (named_regions is) (i.region ∷ named_regions is)) s) ≡ cond (names r (i ∷ is)) (s ∷ []) []
    go true e (inl p) ih = ih ∙ ap (λ b. cond b (s ∷ []) []) (ap (λ x. names x is) p ∙ e) ∙ sym (ap (λ b. cond b (s ∷ []) []) (names_cons r i is ∙ ap (λ b. b || names r is) (ap (λ x. eqb x i.region) p ∙ eqb_self i.region)))
    go true e (inr f) ih = ih ∙ sym (ap (λ b. cond b (s ∷ []) []) (names_cons r i is ∙ ap (λ b. b || names r is) f.0))
    go false e (inl p) ih = own_cons r record { region = i.region; step = s } (on_each (named_regions is) s)
        ∙ ap (λ b. cond b (s ∷ steps_on r (on_each (named_regions is) s)) (steps_on r (on_each (named_regions is) s)))
        (ap (λ x. eqb x i.region) p ∙ eqb_self i.region)
        ∙ ap (λ l. s ∷ l) (ih ∙ ap (λ b. cond b (s ∷ []) []) (ap (λ x. names x is) p ∙ e)) ∙ sym (ap (λ b. cond b (s ∷ []) []) (names_cons r i is ∙ ap (λ b. b || names r is) (ap (λ x. eqb x i.region) p ∙ eqb_self i.region)))
    go false e (inr f) ih = own_other r record { region = i.region; step = s } (on_each (named_regions is) s) f.0 ∙ ih ∙ sym (ap (λ b. cond b (s ∷ []) []) (names_cons r i is ∙ ap (λ b. b || names r is) f.0))

pub own-whole_group : (r : ℕ) (w : WholeGroup) → steps_on r (region_steps_of_whole w) ≡ whole_steps r w.steps w.first_seq w.last_seq
unfolding whole_steps
own-whole_group r w = own-append r w.steps (on_each (named_regions w.steps) (AtomicGroup w.first_seq w.last_seq)) ∙ ap (λ l. steps_on r w.steps ++ l) (own-spans r (AtomicGroup w.first_seq w.last_seq) w.steps)

pub own-wholes : (r : ℕ) (ws : List WholeGroup) → steps_on r (region_steps_of_wholes ws) ≡ steps_of_wholes r ws
unfolding steps_of_wholes
own-wholes r [] = own_none r
own-wholes r (w ∷ ws) = own-append r (region_steps_of_whole w) (region_steps_of_wholes ws)
    ∙ ap (λ l. l ++ steps_on r (region_steps_of_wholes ws)) (own-whole_group r w) ∙ ap (λ l. whole_steps r w.steps w.first_seq w.last_seq ++ l)
    (own-wholes r ws)

-- ---- one region

holds_one_step : (q : LogQueue) (r : ℕ) (s : Step) → IsStep s → RegionStandsFor q r record { mark = mark_of s; table = own_of r s } (s ∷ [])
holds_one_step q r s good = record { stands = stands_one q r s good; deleted = holds_one s; exact = λ e. exact_one s }

pub holds_none : (q : LogQueue) (r : ℕ) (x : MarkedRegion) → x.mark ≡ fresh → x.table ≡ None → RegionStandsFor q r x []
holds_none q r x m t = subst (λ x. RegionStandsFor q r x []) (sym (ap (λ m. record { mark = m; table = x.table }) m ∙ ap (λ t. record { mark = fresh; table = t }) t)) record {
  stands = stands_fresh q r;
  deleted = none;
  exact = λ e. record { holds = none; greatest = λ e. refl; least = λ e. refl };
}
  where
    none : HoldsDeleted fresh []
    none = record { cleaned = refl; deleted = λ e d. sym (union_empty d); none_deleted = λ e. refl }

pub holds_joined : (q : LogQueue) (r : ℕ) (x n y : MarkedRegion) (ss rs : List Step) → AreSteps ss → AreSteps rs → RegionStandsFor q r x ss → RegionStandsFor q r n rs → joined_region q r x n ≡ Some y → RegionStandsFor q r y (ss ++ rs)
holds_joined q r x n y ss rs good good' h k e =
    map_some {B = MarkedRegion} (λ t. record { mark = joined_mark q r x.mark x.table n.mark; table = t }) (table_over_older q r n.mark n.table x.table) y e (λ w is p. subst (λ y. RegionStandsFor q r y (ss ++ rs)) p record {
      stands = stands_join q r x.mark n.mark x.table n.table w ss rs good good' h.stands k.stands is;
      deleted = (let p = joined_parts q (end_at_reach n.mark (table_of r x.table)) x.mark n.mark (table_of r x.table).entries h.stands.fits in
          holds_join x.mark n.mark (joined_mark q r x.mark x.table n.mark) ss rs h.deleted k.deleted p.0 p.1);
      exact = λ a. subst (λ q. IsExactMark (joined_mark q r x.mark x.table n.mark) (ss ++ rs)) (sym a)
          (exact_join (end_at_reach n.mark (table_of r x.table)) x.mark n.mark (table_of r x.table).entries ss rs h.stands.fits (h.exact a)
          (k.exact a));
    })

pub holds_stepped : (q : LogQueue) (r : ℕ) (x y : MarkedRegion) (ss : List Step) (s : Step) → AreSteps ss → IsStep s → RegionStandsFor q r x ss → stepped_region q r x s ≡ Some y → RegionStandsFor q r y (ss ++ s ∷ [])
holds_stepped q r x y ss s good good' h e =
    holds_joined q r x record { mark = mark_of s; table = own_of r s } y ss (s ∷ []) good (good', tt) h (holds_one_step q r s good')
    (ap (option_map (λ t. record { mark = joined_mark q r x.mark x.table (mark_of s); table = t })) (one_step q r s x.table) ∙ e)

-- ---- all regions

held_step : (q : LogQueue) (rs : MarkedRegions) (i : RegionStep) (x : MarkedRegion) (ss : ℕ → List Step) → ((r : ℕ) → AreSteps (ss r)) →
    IsStep i.step → ((r : ℕ) → RegionStandsFor q r (region_in rs r) (ss r)) → stepped_region q i.region (region_in rs i.region) i.step ≡ Some x
    → (r : ℕ) → RegionStandsFor q r (region_in (with_region rs i.region x) r) (ss r ++ steps_on r (i ∷ []))
held_step q rs i x ss good good' h e r = go (by_region r i.region)
  where
    own : RegionStandsFor q i.region (region_in (with_region rs i.region x) i.region) (ss i.region ++ steps_on i.region (i ∷ []))
    own = subst (λ l. RegionStandsFor q i.region (region_in (with_region rs i.region x) i.region) (ss i.region ++ l)) (sym (own_first i))
        (subst (λ y. RegionStandsFor q i.region y (ss i.region ++ i.step ∷ [])) (sym (held_own rs i.region x)) (holds_stepped q i.region (region_in rs i.region) x (ss i.region) i.step (good i.region) good' (h i.region) e))

    go : (r ≡ i.region) ⊎ IsOther r i.region → RegionStandsFor q r (region_in (with_region rs i.region x) r) (ss r ++ steps_on r (i ∷ []))
    go (inl p) = subst (λ r. RegionStandsFor q r (region_in (with_region rs i.region x) r) (ss r ++ steps_on r (i ∷ []))) (sym p) own
    go (inr f) = subst (λ l. RegionStandsFor q r (region_in (with_region rs i.region x) r) l)
        (sym (ap (λ l. ss r ++ l) (own_nothing r i f.0) ∙ append-nil (ss r)))
        (subst (λ y. RegionStandsFor q r y (ss r)) (sym (held_other rs i.region r x f.1)) (h r))

own_split : (r : ℕ) (ss : List Step) (i : RegionStep) (is : List RegionStep) → (ss ++ steps_on r (i ∷ [])) ++ steps_on r is ≡ ss ++ steps_on r (i ∷ is)
own_split r ss i is = append_assoc ss (steps_on r (i ∷ [])) (steps_on r is) ∙ ap (λ l. ss ++ l) (sym (own-append r (i ∷ []) is))

first_good : (i : RegionStep) (is : List RegionStep) → ((r : ℕ) → AreSteps (steps_on r (i ∷ is))) → IsStep i.step
first_good i is good = (subst AreSteps (own_head i is) (good i.region)).0

rest_good : (r : ℕ) (i : RegionStep) (is : List RegionStep) → AreSteps (steps_on r (i ∷ is)) → AreSteps (steps_on r (i ∷ [])) × AreSteps (steps_on r is)
rest_good r i is good = let g = subst AreSteps (own-append r (i ∷ []) is) good in (steps_left _ _ g, steps_right _ _ g)

pub read_holds : (q : LogQueue) (rs new : MarkedRegions) (is : List RegionStep) (ss : ℕ → List Step) → ((r : ℕ) → AreSteps (ss r)) →
    ((r : ℕ) → AreSteps (steps_on r is)) → ((r : ℕ) → RegionStandsFor q r (region_in rs r) (ss r)) → regions_after q rs is ≡ Some new → (r : ℕ) →
    RegionStandsFor q r (region_in new r) (ss r ++ steps_on r is)
read_holds q rs new [] ss good good' h e r = subst (λ l. RegionStandsFor q r (region_in new r) l)
    (sym (ap (λ l. ss r ++ l) (own_none r) ∙ append-nil (ss r)))
    (subst (λ (n : MarkedRegions). RegionStandsFor q r (region_in n r) (ss r)) (some_is e) (h r))
read_holds q rs new (i ∷ is) ss good good' h e r =
    option_and_then_some (λ (x : MarkedRegion). regions_after q (with_region rs i.region x) is) (stepped_region q i.region (region_in rs i.region) i.step) new e
    (λ x k e. subst (RegionStandsFor q r (region_in new r)) (own_split r (ss r) i is) (read_holds q (with_region rs i.region x) new is (λ r. ss r ++ steps_on r (i ∷ []))
    (λ r. steps-append (ss r) _ (good r) (rest_good r i is (good' r)).0) (λ r. (rest_good r i is (good' r)).1) (held_step q rs i x ss good (first_good i is good') h k) e r))

pub refused_more : (q : LogQueue) (r : ℕ) (ss rs : List Step) → after q r None ss ≡ None → after q r None (ss ++ rs) ≡ None
refused_more q r ss rs e = after-append q r None ss rs ∙ ap (option_and_then (λ u. after q r u rs)) e

pub read_refused : (q : LogQueue) (rs : MarkedRegions) (is : List RegionStep) (ss : ℕ → List Step) → ((r : ℕ) → AreSteps (ss r)) →
    ((r : ℕ) → AreSteps (steps_on r is)) → ((r : ℕ) → RegionStandsFor q r (region_in rs r) (ss r)) → regions_after q rs is ≡ None →
    (r : ℕ) × (after q r None (ss r ++ steps_on r is) ≡ None)
read_refused q rs [] ss good good' h e = absurd cc
read_refused q rs (i ∷ is) ss good good' h e =
    then_none (λ (x : MarkedRegion). regions_after q (with_region rs i.region x) is) (stepped_region q i.region (region_in rs i.region) i.step) e
    (λ k. (
      i.region,
      ap (after q i.region None) (sym (own_split i.region (ss i.region) i is) ∙ ap (λ l. (ss i.region ++ l) ++ steps_on i.region is) (own_first i))
          ∙ refused_more q i.region (ss i.region ++ i.step ∷ []) (steps_on i.region is)
          (refused_step q i.region (region_in rs i.region).mark (region_in rs i.region).table (ss i.region) i.step (h i.region).stands (map_none put (after_step q (table_of i.region (region_in rs i.region).table) i.step) k)),
    ))
    (λ x k e.
    let p = read_refused q (with_region rs i.region x) is (λ r. ss r ++ steps_on r (i ∷ [])) (λ r. steps-append (ss r) _ (good r) (rest_good r i is (good' r)).0) (λ r. (rest_good r i is (good' r)).1)
    (held_step q rs i x ss good (first_good i is good') h k) e in
    (p.0, ap (after q p.0 None) (sym (own_split p.0 (ss p.0) i is)) ∙ p.1))
  where
    put : Option Table → MarkedRegion
    put t = record { mark = joined_mark q i.region (region_in rs i.region).mark (region_in rs i.region).table (mark_of i.step); table = t }

pub read_marked : (q : LogQueue) (rs new : MarkedRegions) (is : List RegionStep) → regions_after q rs is ≡ Some new → (r : ℕ) → is_some (finite.get new.marks r) ≡ (is_some (finite.get rs.marks r) || names r is)
read_marked q rs new [] e r = sym (ap (λ (n : MarkedRegions). is_some (finite.get n.marks r)) (some_is e)) ∙ sym (or-false (is_some (finite.get rs.marks r))) ∙ sym (ap (λ b. is_some (finite.get rs.marks r) || b) (names_none r))
read_marked q rs new (i ∷ is) e r =
    option_and_then_some (λ (x : MarkedRegion). regions_after q (with_region rs i.region x) is) (stepped_region q i.region (region_in rs i.region) i.step) new e
    (λ x k e. read_marked q (with_region rs i.region x) new is e r ∙ ap (λ b. b || names r is) (marked_with rs i.region r x)
    ∙ swap (eqb r i.region) (is_some (finite.get rs.marks r)) (names r is) ∙ sym (ap (λ b. is_some (finite.get rs.marks r) || b) (names_cons r i is)))
  where
    swap : (a b c : Bool) → ((a || b) || c) ≡ (b || (a || c))
    swap true true c = refl
    swap true false c = refl
    swap false b c = refl
