-- The regions of two neighbors, joined one after another.
use Rattle.raft_history.proofs.Common.{no_both, option_and_then_some, or-false, then_none, some_is, ◌≡◌, ◌⊎◌, ℕ, Bool, true, false, cond, eqb, ◌||◌, List, [], ◌∷◌, Option, Some, None, refl, sym, ap, subst, ◌∙◌, inl, inr, is_some, map}
use Rattle.raft_history.proofs.Common.{IsDistinct, nat_cmp, find, LogQueue, Mark, Context, AreMerged, AreRegionsRefused, merged_regions, MarkedRegions, MarkedRegion, region_in, with_region, joined_region, joined_marked, joined_each}
use Rattle.raft_history.proofs.Common.{joined_regions, regions_after, region_steps_of_wholes, Tables, whole_groups, ◌↔◌, option_map, unwrap_or, nat_cmp_total, nat_cmp-IsAntisymmetric, fresh, follows, merged_with, merged_context}
use Rattle.raft_history.proofs.KnownLemmas.{find_none, keys_distinct, tied}
use Rattle.raft_history.proofs.MapLemmas.{IsOther, by_region, held_own, held_other, marked_with}
use Rattle.raft_history.proofs.StepListLemmas.{eqb_self}
use Rattle.std.specs.FinMap as finite

find_own : (e : ℕ × Mark) (es : List (ℕ × Mark)) → find nat_cmp e.0 (e ∷ es) ≡ Some e.1
find_own e es = ap (λ b. cond b (Some e.1) (find nat_cmp e.0 es)) (tied e.0 e.0 ∙ eqb_self e.0)

find_other : (r : ℕ) (e : ℕ × Mark) (es : List (ℕ × Mark)) → IsOther r e.0 → find nat_cmp r (e ∷ es) ≡ find nat_cmp r es
find_other r e es f = ap (λ b. cond b (Some e.1) (find nat_cmp r es)) f.1

abbrev keys : List (ℕ × Mark) → List ℕ
keys es = map (λ (e : ℕ × Mark). e.0) es

pub each_joined : (q : LogQueue) (newer : Tables) (rs new : MarkedRegions) (es : List (ℕ × Mark)) → IsDistinct eqb (keys es) →
    joined_each q newer rs es ≡ Some new → (r : ℕ) → joined_marked q r (find nat_cmp r es) (finite.get newer r) (region_in rs r) ≡ Some
    (region_in new r)
unfolding IsDistinct
each_joined q newer rs new [] one e r = ap (λ (n : MarkedRegions). Some (region_in n r)) (some_is e)
each_joined q newer rs new (x ∷ es) one e r = option_and_then_some (λ (y : MarkedRegion). joined_each q newer (with_region rs x.0 y) es) (joined_region q x.0 (region_in rs x.0) record { mark = x.1; table = finite.get newer x.0 }) new e
    (λ y is e. at y is (each_joined q newer (with_region rs x.0 y) new es one.1 e) (by_region r x.0))
  where
    at : (y : MarkedRegion) → joined_region q x.0 (region_in rs x.0) record { mark = x.1; table = finite.get newer x.0 } ≡ Some y →
        ((r : ℕ) → joined_marked q r (find nat_cmp r es) (finite.get newer r) (region_in (with_region rs x.0 y) r) ≡ Some (region_in new r)) →
        (r ≡ x.0) ⊎ IsOther r x.0
        → joined_marked q r (find nat_cmp r (x ∷ es)) (finite.get newer r) (region_in rs r) ≡ Some (region_in new r)
    at y is ih (inr f) = ap (λ o. joined_marked q r o (finite.get newer r) (region_in rs r)) (find_other r x es f) ∙ ap (joined_marked q r (find nat_cmp r es) (finite.get newer r)) (sym (held_other rs x.0 r y f.1)) ∙ ih r
    at y is ih (inl p) = subst (λ r. joined_marked q r (find nat_cmp r (x ∷ es)) (finite.get newer r) (region_in rs r) ≡ Some (region_in new r)) (sym p)
        (ap (λ o. joined_marked q x.0 o (finite.get newer x.0) (region_in rs x.0)) (find_own x es) ∙ is ∙ sym (ap (λ h. Some h) (held_own rs x.0 y))
        ∙ sym (ap (λ o. joined_marked q x.0 o (finite.get newer x.0) (region_in (with_region rs x.0 y) x.0)) (find_none x.0 es one.0)) ∙ ih x.0)

pub each_refused : (q : LogQueue) (newer : Tables) (rs : MarkedRegions) (es : List (ℕ × Mark)) → IsDistinct eqb (keys es) →
    joined_each q newer rs es ≡ None → (r : ℕ) × (joined_marked q r (find nat_cmp r es) (finite.get newer r) (region_in rs r) ≡ None)
unfolding IsDistinct
each_refused q newer rs [] one e = absurd cc
each_refused q newer rs (x ∷ es) one e = then_none (λ (y : MarkedRegion). joined_each q newer (with_region rs x.0 y) es) (joined_region q x.0 (region_in rs x.0) record { mark = x.1; table = finite.get newer x.0 }) e
    (λ is. (x.0, ap (λ o. joined_marked q x.0 o (finite.get newer x.0) (region_in rs x.0)) (find_own x es) ∙ is))
    (λ y is e. let p = each_refused q newer (with_region rs x.0 y) es one.1 e in (p.0, at p.0 y p.1 (by_region p.0 x.0)))
  where
    at : (r : ℕ) (y : MarkedRegion) → joined_marked q r (find nat_cmp r es) (finite.get newer r) (region_in (with_region rs x.0 y) r) ≡ None →
        (r ≡ x.0) ⊎ IsOther r x.0 → joined_marked q r (find nat_cmp r (x ∷ es)) (finite.get newer r) (region_in rs r) ≡ None
    at r y h (inr f) = ap (λ o. joined_marked q r o (finite.get newer r) (region_in rs r)) (find_other r x es f) ∙ ap (joined_marked q r (find nat_cmp r es) (finite.get newer r)) (sym (held_other rs x.0 r y f.1)) ∙ h
    at r y h (inl p) = absurd (no_both (sym (ap (λ o. joined_marked q r o (finite.get newer r) (region_in (with_region rs x.0 y) r)) (ap (λ k. find nat_cmp k es) p ∙ find_none x.0 es one.0)) ∙ h) refl)

pub each_marked : (q : LogQueue) (newer : Tables) (rs new : MarkedRegions) (es : List (ℕ × Mark)) → joined_each q newer rs es ≡ Some new → (r : ℕ) →
    is_some (finite.get new.marks r) ≡ (is_some (finite.get rs.marks r) || is_some (find nat_cmp r es))
each_marked q newer rs new [] e r = sym (ap (λ (n : MarkedRegions). is_some (finite.get n.marks r)) (some_is e)) ∙ sym (or-false (is_some (finite.get rs.marks r)))
each_marked q newer rs new (x ∷ es) e r = option_and_then_some (λ (y : MarkedRegion). joined_each q newer (with_region rs x.0 y) es) (joined_region q x.0 (region_in rs x.0) record { mark = x.1; table = finite.get newer x.0 }) new e
    (λ y is e. each_marked q newer (with_region rs x.0 y) new es e r ∙ ap (λ b. b || is_some (find nat_cmp r es)) (marked_with rs x.0 r y)
    ∙ swap (eqb r x.0) (is_some (finite.get rs.marks r)) (find nat_cmp r es)
    ∙ sym (ap (λ b. is_some (finite.get rs.marks r) || is_some (cond b (Some x.1) (find nat_cmp r es))) (tied r x.0)))
  where
    swap : (a b : Bool) (o : Option Mark) → ((a || b) || is_some o) ≡ (b || is_some (cond a (Some x.1) o))
    swap true true o = refl
    swap true false o = refl
    swap false b o = refl

pub merged_are : (q : LogQueue) (c d : Context) (new : MarkedRegions) → merged_regions q c d ≡ Some new → AreMerged q c d new
merged_are q c d new e = option_and_then_some (λ (middle : MarkedRegions). joined_regions q middle d.regions) (regions_after q c.regions (region_steps_of_wholes (whole_groups c.groups d.groups))) new e (λ middle is e. record {
  middle = middle;
  wholes = is;
  regions = λ r. ap (λ o. joined_marked q r o (finite.get d.regions.tables r) (region_in middle r)) (finite.get-entries d.regions.marks r)
      ∙ each_joined q d.regions.tables middle new (finite.entries d.regions.marks)
      (keys_distinct (finite.entries d.regions.marks) (finite.entries_sorted d.regions.marks)) e r;
  marked = λ r. each_marked q d.regions.tables middle new (finite.entries d.regions.marks) e r ∙ ap (λ o. is_some (finite.get middle.marks r) || is_some o) (sym (finite.get-entries d.regions.marks r));
})

pub merged_refused : (q : LogQueue) (c d : Context) → merged_regions q c d ≡ None → AreRegionsRefused q c d
merged_refused q c d e = then_none (λ (middle : MarkedRegions). joined_regions q middle d.regions) (regions_after q c.regions (region_steps_of_wholes (whole_groups c.groups d.groups))) e (λ is. inl is) (λ middle is e.
    let p = each_refused q d.regions.tables middle (finite.entries d.regions.marks) (keys_distinct (finite.entries d.regions.marks) (finite.entries_sorted d.regions.marks)) e in
    inr (middle, is, (p.0, ap (λ o. joined_marked q p.0 o (finite.get d.regions.tables p.0) (region_in middle p.0)) (finite.get-entries d.regions.marks p.0) ∙ p.1)))

-- ---- a merge of contexts, region after region, is that of the regions one by one

none_some : {X : Type 0} {x : X} → None ≡ Some x → ⊥
none_some e = cc

-- the region, as it is joined into some middle regions
abbrev joined_into : LogQueue → Context → ℕ → MarkedRegions → Option MarkedRegion
joined_into q d r x = joined_marked q r (finite.get d.regions.marks r) (finite.get d.regions.tables r) (region_in x r)

not_both : (q : LogQueue) (c d : Context) (new : MarkedRegions) → AreMerged q c d new → AreRegionsRefused q c d → ⊥
not_both q c d new m (inl e) = none_some (sym e ∙ m.wholes)
not_both q c d new m (inr f) = none_some (sym f.2.1 ∙ ap (joined_into q d f.2.0) (some_is (sym f.1 ∙ m.wholes)) ∙ m.regions f.2.0)

same_mark : (o p : Option Mark) → is_some o ≡ is_some p → unwrap_or o fresh ≡ unwrap_or p fresh → o ≡ p
same_mark None None s e = refl
same_mark None (Some m) s e = absurd cc
same_mark (Some m) None s e = absurd cc
same_mark (Some m) (Some n) s e = ap (λ x. Some x) e

module _ (q : LogQueue) (c d : Context) (a b : MarkedRegions) (m : AreMerged q c d a) (n : AreMerged q c d b) where
  middle : m.middle ≡ n.middle
  middle = some_is (sym m.wholes ∙ n.wholes)

  each : (r : ℕ) → region_in a r ≡ region_in b r
  each r = some_is (sym (m.regions r) ∙ ap (joined_into q d r) middle ∙ n.regions r)

  there : (r : ℕ) → is_some (finite.get a.marks r) ≡ is_some (finite.get b.marks r)
  there r = m.marked r ∙ ap (λ (x : MarkedRegions). is_some (finite.get x.marks r) || is_some (finite.get d.regions.marks r)) middle ∙ sym (n.marked r)

  tables : a.tables ≡ b.tables
  tables = finite.same_map nat_cmp_total nat_cmp-IsAntisymmetric a.tables b.tables (λ r. ap (λ (x : MarkedRegion). x.table) (each r))

  marks : a.marks ≡ b.marks
  marks = finite.same_map nat_cmp_total nat_cmp-IsAntisymmetric a.marks b.marks (λ r. same_mark (finite.get a.marks r) (finite.get b.marks r) (there r) (ap (λ (x : MarkedRegion). x.mark) (each r)))

  unique : a ≡ b
  unique = ap (λ t. record { tables = t; marks = a.marks }) tables ∙ ap (λ k. record { tables = b.tables; marks = k }) marks

pub fold_is : (q : LogQueue) (c d e : Context) → (merged_context q c d ≡ Some e) ↔ ((follows c.files d.files ≡ true) × AreMerged q c d e.regions × (e ≡ merged_with c d e.regions))
fold_is q c d e = (there_by (follows c.files d.files) (merged_regions q c d) refl refl, back)
  where
    there_by : (b : Bool) (o : Option MarkedRegions) → follows c.files d.files ≡ b → merged_regions q c d ≡ o → cond b (option_map (merged_with c d) o) None ≡ Some e
        → (follows c.files d.files ≡ true) × AreMerged q c d e.regions × (e ≡ merged_with c d e.regions)
    there_by false o f r is = absurd cc
    there_by true None f r is = absurd cc
    there_by true (Some rs) f r is = let p : merged_with c d rs ≡ e = some_is is in
        (f, subst (λ (x : Context). AreMerged q c d x.regions) p (merged_are q c d rs r), subst (λ (x : Context). x ≡ merged_with c d x.regions) p refl)

    back_by : (b : Bool) (o : Option MarkedRegions) → b ≡ true → merged_regions q c d ≡ o → AreMerged q c d e.regions → e ≡ merged_with c d e.regions → cond b (option_map (merged_with c d) o) None ≡ Some e
    back_by false o f r m is = absurd cc
    back_by true None f r m is = absurd (not_both q c d e.regions m (merged_refused q c d r))
    back_by true (Some rs) f r m is = ap (λ x. Some (merged_with c d x)) (unique q c d rs e.regions (merged_are q c d rs r) m) ∙ ap (λ x. Some x) (sym is)

    back : (follows c.files d.files ≡ true) × AreMerged q c d e.regions × (e ≡ merged_with c d e.regions) → merged_context q c d ≡ Some e
    back p = back_by (follows c.files d.files) (merged_regions q c d) p.0 refl p.1 p.2

pub fold_refused : (q : LogQueue) (c d : Context) → (merged_context q c d ≡ None) ↔ ((follows c.files d.files ≡ false) ⊎ AreRegionsRefused q c d)
fold_refused q c d = (there_by (follows c.files d.files) (merged_regions q c d) refl refl, back)
  where
    there_by : (b : Bool) (o : Option MarkedRegions) → follows c.files d.files ≡ b → merged_regions q c d ≡ o → cond b (option_map (merged_with c d) o) None ≡ None → (follows c.files d.files ≡ false) ⊎ AreRegionsRefused q c d
    there_by false o f r is = inl f
    there_by true None f r is = inr (merged_refused q c d r)
    there_by true (Some rs) f r is = absurd cc

    back_by : (b : Bool) (o : Option MarkedRegions) → merged_regions q c d ≡ o → AreRegionsRefused q c d → cond b (option_map (merged_with c d) o) None ≡ None
    back_by false o r n = refl
    back_by true None r n = refl
    back_by true (Some rs) r n = absurd (not_both q c d rs (merged_are q c d rs r) n)

    back : (follows c.files d.files ≡ false) ⊎ AreRegionsRefused q c d → merged_context q c d ≡ None
    back (inl f) = ap (λ b. cond b (option_map (merged_with c d) (merged_regions q c d)) None) f
    back (inr n) = back_by (follows c.files d.files) (merged_regions q c d) refl n
