-- The regions that joined histories name.
use Rattle.raft_history.proofs.Common.{Rewrite, ◌≡◌, ℕ, Bool, true, false, cond, ◌||◌, List, [], ◌∷◌, ◌++◌, Option, Some, None, refl, sym, ap, ◌∙◌, flat_map, list_any, BatchSteps, GroupMarker, whole_steps, steps_of, EachApart, effects}
use Rattle.raft_history.proofs.Common.{is_named, RegionStep, names, steps_on, WholeGroup, whole_group, one_marker, WaitingGroups, groups_in, known_of, whole_groups, steps_or, steps_by_batch, names_by, names_by_batch, steps_of_wholes, Step}
use Rattle.raft_history.proofs.Common.{AtomicGroup, map_none, or_assoc, no_both, some_is, subst, inl, inr, append_assoc, append-nil, is_some, option_map, unwrap_or, option_and_then, LogQueue, Mark, there_if, table_over_older, is_there_over}
use Rattle.raft_history.proofs.Common.{joined_mark, fresh, mark_of, Run, AreSteps, table_of, after_step, after, Table, refused_join, Event, batch_of, batches, Context, RegionStandsFor, AreExact, AreMerged, AreRegionsRefused}
use Rattle.raft_history.proofs.Common.{region_steps_or, completed_steps, MarkedRegions, MarkedRegion, region_in, with_region, regions_after, region_steps_of_wholes, joined_marked}
use Rattle.raft_history.proofs.EffectLemmas.{steps_on-none}
use Rattle.raft_history.proofs.KnownLemmas.{steps_across}
use Rattle.raft_history.proofs.MoreLemmas.{steps-one}
use Rattle.raft_history.proofs.WithoutMarkers.{named-steps, steps_on-some}
use Rattle.raft_history.proofs.Words.{AreInFiles}
use Rattle.raft_history.proofs.ReadLemmas.{own-whole_group, own-wholes, holds_joined, read_holds, read_refused, read_marked, refused_more}
use Rattle.raft_history.proofs.SoundLemmas.{steps_good, batches-append}
use Rattle.raft_history.proofs.StepListLemmas.{steps-append, steps_left, steps_right, own_none}
use Rattle.std.specs.FinMap as finite

abbrev pub has_steps : List Step → Bool
has_steps [] = false
has_steps (x ∷ xs) = true

pub has_steps-append : (xs ys : List Step) → has_steps (xs ++ ys) ≡ (has_steps xs || has_steps ys)
has_steps-append [] ys = refl
has_steps-append (x ∷ xs) ys = refl

no_steps : (xs : List Step) → has_steps xs ≡ false → xs ≡ []
no_steps [] h = refl
no_steps (x ∷ xs) h = cc

-- two tests that are false together are equal
same_test : (a b : Bool) → (a ≡ false → b ≡ false) → (b ≡ false → a ≡ false) → a ≡ b
same_test true true f g = refl
same_test true false f g = g refl
same_test false true f g = sym (f refl)
same_test false false f g = refl

pub has_steps-of : (r : ℕ) (h : List BatchSteps) → has_steps (steps_of r h) ≡ is_named r h
has_steps-of r h = same_test (has_steps (steps_of r h)) (is_named r h) (λ e. (named-steps r h).1 (no_steps (steps_of r h) e)) (λ e. ap has_steps ((named-steps r h).0 e))

pub has_steps-own : (r : ℕ) (is : List RegionStep) → has_steps (steps_on r is) ≡ names r is
has_steps-own r is = same_test (has_steps (steps_on r is)) (names r is) (λ e. steps_on-some r is (no_steps (steps_on r is) e)) (λ e. ap has_steps (steps_on-none r is e))

pub has_steps-whole_group : (r : ℕ) (w : WholeGroup) → has_steps (whole_steps r w.steps w.first_seq w.last_seq) ≡ names r w.steps
unfolding whole_steps
has_steps-whole_group r w = has_steps-append (steps_on r w.steps) (cond (names r w.steps) (AtomicGroup w.first_seq w.last_seq ∷ []) [])
    ∙ ap (λ b. b || has_steps (cond (names r w.steps) (AtomicGroup w.first_seq w.last_seq ∷ []) [])) (has_steps-own r w.steps) ∙ go (names r w.steps)
  where
    go : (b : Bool) → (b || has_steps (cond b (AtomicGroup w.first_seq w.last_seq ∷ []) [])) ≡ b
    go true = refl
    go false = refl

pub has_steps-wholes : (r : ℕ) (ws : List WholeGroup) → has_steps (steps_of_wholes r ws) ≡ list_any (λ w. names r w.steps) ws
unfolding steps_of_wholes
has_steps-wholes r [] = refl
has_steps-wholes r (w ∷ ws) = has_steps-append (group_steps w) (flat_map group_steps ws) ∙ ap (λ b. b || has_steps (flat_map group_steps ws)) (has_steps-whole_group r w) ∙ ap (λ b. names r w.steps || b) (has_steps-wholes r ws)
  where
    group_steps : WholeGroup → List Step
    group_steps w = whole_steps r w.steps w.first_seq w.last_seq

pub named_across : (r : ℕ) (h k : List BatchSteps) → EachApart (effects (h ++ k)) → is_named r (h ++ k) ≡ (is_named r h || (list_any (λ w. names r w.steps) (whole_groups (groups_in h) (groups_in k)) || is_named r k))
named_across r h k apart =
    let ws = whole_groups (groups_in h) (groups_in k) in
    sym (has_steps-of r (h ++ k)) ∙ ap has_steps (steps_across r h k apart)
    ∙ rw (has_steps-append (steps_of r h) (steps_of_wholes r ws ++ steps_of r k), has_steps-append (steps_of_wholes r ws) (steps_of r k), has_steps-of r h, has_steps-wholes r ws, has_steps-of r k) refl

pub by_batch : (r : ℕ) (groups : WaitingGroups) (b : BatchSteps) (m : Option GroupMarker) → has_steps (steps_by_batch r groups b m) ≡ names_by_batch r groups b m
by_batch r groups b None = has_steps-own r b.steps
by_batch r groups b (Some m) = go (whole_group (known_of groups m.group) (one_marker m.status b.steps b.seq))
  where
    go : (o : Option WholeGroup) → has_steps (steps_or r o) ≡ names_by r o
    go None = refl
    go (Some w) = has_steps-whole_group r w

pub named-one : (r : ℕ) (h : List BatchSteps) (b : BatchSteps) → is_named r (h ++ b ∷ []) ≡ (is_named r h || names_by_batch r (groups_in h) b b.marker)
named-one r h b = sym (has_steps-of r (h ++ b ∷ [])) ∙ ap has_steps (steps-one r h b) ∙ has_steps-append (steps_of r h) (steps_by_batch r (groups_in h) b b.marker)
    ∙ ap (λ x. x || has_steps (steps_by_batch r (groups_in h) b b.marker)) (has_steps-of r h) ∙ ap (λ x. is_named r h || x) (by_batch r (groups_in h) b b.marker)

-- ---- marked regions that are exact for two histories give, merged, regions that are exact for both; and one more batch

holds_marked : (q : LogQueue) (r : ℕ) (x y : MarkedRegion) (o : Option Mark) (t : Option Table) (ss rs : List Step) → AreSteps ss → AreSteps rs →
    RegionStandsFor q r x ss → RegionStandsFor q r record { mark = unwrap_or o fresh; table = t } rs → (o ≡ None → rs ≡ []) →
    joined_marked q r o t x ≡ Some y → RegionStandsFor q r y (ss ++ rs)
holds_marked q r x y None t ss rs good good' h k none e = subst (λ l. RegionStandsFor q r y (ss ++ l)) (sym (none refl)) (subst (λ l. RegionStandsFor q r y l) (sym (append-nil ss)) (subst (λ x. RegionStandsFor q r x ss) (some_is e) h))
holds_marked q r x y (Some m) t ss rs good good' h k none e = holds_joined q r x record { mark = m; table = t } y ss rs good good' h k e

refused_marked : (q : LogQueue) (r : ℕ) (x : MarkedRegion) (o : Option Mark) (t : Option Table) (ss rs : List Step) → RegionStandsFor q r x ss →
    RegionStandsFor q r record { mark = unwrap_or o fresh; table = t } rs → joined_marked q r o t x ≡ None → after q r None (ss ++ rs) ≡ None
refused_marked q r x None t ss rs h k e = absurd cc
refused_marked q r x (Some m) t ss rs h k e = refused_join q r x.mark m x.table t ss rs h.stands k.stands
    (map_none {B = MarkedRegion} (λ t. record { mark = joined_mark q r x.mark x.table m; table = t }) (table_over_older q r m t x.table) e)

-- two contexts, by their regions and groups
pub record Parts (q : LogQueue) (c d : Context) (h k : List Event) : Type 0 where
  pub older_groups : c.groups ≡ groups_in (batches h)
  pub newer_groups : d.groups ≡ groups_in (batches k)
  pub older_files : AreInFiles h
  pub newer_files : AreInFiles k
  pub both_files : AreInFiles (h ++ k)
  pub older : AreExact q c.regions (batches h)
  pub newer : AreExact q d.regions (batches k)
  pub apart : EachApart (effects (batches (h ++ k)))

across : (q : LogQueue) (c d : Context) (h k : List Event) → Parts q c d h k → (r : ℕ) →
    steps_of r (batches (h ++ k)) ≡ steps_of r
    (batches h) ++ (steps_on r (region_steps_of_wholes (whole_groups c.groups d.groups)) ++ steps_of r (batches k))
across q c d h k p r = ap (steps_of r) (batches-append h k) ∙ steps_across r (batches h) (batches k) (subst (λ l. EachApart (effects l)) (batches-append h k) p.apart)
    ∙ sym (ap (λ l. steps_of r (batches h) ++ (l ++ steps_of r (batches k))) (own-wholes r (whole_groups c.groups d.groups)
    ∙ ap (λ g. steps_of_wholes r (whole_groups g d.groups)) p.older_groups ∙ ap (λ g. steps_of_wholes r (whole_groups (groups_in (batches h)) g)) p.newer_groups))

wholes_good : (q : LogQueue) (c d : Context) (h k : List Event) → Parts q c d h k → (r : ℕ) → AreSteps (steps_on r (region_steps_of_wholes (whole_groups c.groups d.groups)))
wholes_good q c d h k p r = steps_left _ _ (steps_right (steps_of r (batches h)) _ (subst AreSteps (across q c d h k p r) (steps_good r (h ++ k) p.both_files)))

middle_holds : (q : LogQueue) (c d : Context) (h k : List Event) (mid : MarkedRegions) → Parts q c d h k →
    regions_after q c.regions (region_steps_of_wholes (whole_groups c.groups d.groups)) ≡ Some mid → (r : ℕ) →
    RegionStandsFor q r (region_in mid r) (steps_of r (batches h) ++ steps_on r (region_steps_of_wholes (whole_groups c.groups d.groups)))
middle_holds q c d h k mid p e r = read_holds q c.regions mid (region_steps_of_wholes (whole_groups c.groups d.groups)) (λ r. steps_of r (batches h)) (λ r. steps_good r h p.older_files) (wholes_good q c d h k p) p.older.each e r

pub regions_merged : (q : LogQueue) (c d : Context) (h k : List Event) (new : MarkedRegions) → Parts q c d h k → AreMerged q c d new → AreExact q new (batches (h ++ k))
regions_merged q c d h k new p m = record { each = each; marked = marked }
  where
    W : ℕ → List Step
    W r = steps_on r (region_steps_of_wholes (whole_groups c.groups d.groups))

    each : (r : ℕ) → RegionStandsFor q r (region_in new r) (steps_of r (batches (h ++ k)))
    each r = subst (RegionStandsFor q r (region_in new r)) (append_assoc (steps_of r (batches h)) (W r) (steps_of r (batches k)) ∙ sym (across q c d h k p r))
        (holds_marked q r (region_in m.middle r) (region_in new r) (finite.get d.regions.marks r) (finite.get d.regions.tables r) (steps_of r (batches h) ++ W r) (steps_of r (batches k))
        (steps-append (steps_of r (batches h)) (W r) (steps_good r h p.older_files) (wholes_good q c d h k p r)) (steps_good r k p.newer_files)
        (middle_holds q c d h k m.middle p m.wholes r) (p.newer.each r) (λ e. (named-steps r (batches k)).0 (sym (p.newer.marked r) ∙ ap is_some e)) (m.regions r))

    marked : (r : ℕ) → is_some (finite.get new.marks r) ≡ is_named r (batches (h ++ k))
    marked r = m.marked r ∙ ap (λ b. b || is_some (finite.get d.regions.marks r)) (read_marked q c.regions m.middle (region_steps_of_wholes (whole_groups c.groups d.groups)) m.wholes r)
        ∙ or_assoc (is_some (finite.get c.regions.marks r)) (names r (region_steps_of_wholes (whole_groups c.groups d.groups))) (is_some (finite.get d.regions.marks r))
        ∙ ap (λ b. b || (names r (region_steps_of_wholes (whole_groups c.groups d.groups)) || is_some (finite.get d.regions.marks r))) (p.older.marked r)
        ∙ ap (λ b. is_named r (batches h) || (names r (region_steps_of_wholes (whole_groups c.groups d.groups)) || b)) (p.newer.marked r)
        ∙ ap (λ b. is_named r (batches h) || (b || is_named r (batches k)))
        (sym (has_steps-own r (region_steps_of_wholes (whole_groups c.groups d.groups))) ∙ ap has_steps (own-wholes r (whole_groups c.groups d.groups)) ∙ has_steps-wholes r (whole_groups c.groups d.groups)
        ∙ ap (λ g. list_any (λ w. names r w.steps) (whole_groups g d.groups)) p.older_groups
        ∙ ap (λ g. list_any (λ w. names r w.steps) (whole_groups (groups_in (batches h)) g)) p.newer_groups)
        ∙ sym (named_across r (batches h) (batches k) (subst (λ l. EachApart (effects l)) (batches-append h k) p.apart)) ∙ ap (is_named r) (sym (batches-append h k))

-- where the merge is refused, one reading refuses some region's steps
pub regions_refused : (q : LogQueue) (c d : Context) (h k : List Event) → Parts q c d h k → AreRegionsRefused q c d → (r : ℕ) × (after q r None (steps_of r (batches (h ++ k))) ≡ None)
regions_refused q c d h k p (inl e) = let f = read_refused q c.regions (region_steps_of_wholes (whole_groups c.groups d.groups)) (λ r. steps_of r (batches h)) (λ r. steps_good r h p.older_files) (wholes_good q c d h k p) p.older.each e in (
  f.0,
  ap (after q f.0 None) (across q c d h k p f.0
      ∙ sym (append_assoc (steps_of f.0 (batches h)) (steps_on f.0 (region_steps_of_wholes (whole_groups c.groups d.groups)))
      (steps_of f.0 (batches k)))) ∙ refused_more q f.0
      (steps_of f.0 (batches h) ++ steps_on f.0 (region_steps_of_wholes (whole_groups c.groups d.groups))) (steps_of f.0 (batches k)) f.1,
)
regions_refused q c d h k p (inr f) = let r = f.2.0 in (
  r,
  ap (after q r None) (across q c d h k p r ∙ sym (append_assoc (steps_of r (batches h)) (steps_on r (region_steps_of_wholes (whole_groups c.groups d.groups))) (steps_of r (batches k))))
      ∙ refused_marked q r (region_in f.0 r) (finite.get d.regions.marks r) (finite.get d.regions.tables r)
      (steps_of r (batches h) ++ steps_on r (region_steps_of_wholes (whole_groups c.groups d.groups))) (steps_of r (batches k))
      (middle_holds q c d h k f.0 p f.1 r) (p.newer.each r) f.2.1,
)

-- ---- one more batch

own-completed : (r : ℕ) (g : WaitingGroups) (b : BatchSteps) (m : Option GroupMarker) → steps_on r (completed_steps g b m) ≡ steps_by_batch r g b m
own-completed r g b None = refl
own-completed r g b (Some m) = go (whole_group (known_of g m.group) (one_marker m.status b.steps b.seq))
  where
    go : (o : Option WholeGroup) → steps_on r (region_steps_or o) ≡ steps_or r o
    go None = own_none r
    go (Some w) = own-whole_group r w

abbrev steps_taken : WaitingGroups → Event → List RegionStep
steps_taken g e = completed_steps g (batch_of e) (batch_of e).marker

one_more : (g : WaitingGroups) (h : List Event) (e : Event) (r : ℕ) → g ≡ groups_in (batches h) → steps_of r (batches (h ++ e ∷ [])) ≡ steps_of r (batches h) ++ steps_on r (steps_taken g e)
one_more g h e r is = ap (steps_of r) (batches-append h (e ∷ [])) ∙ steps-one r (batches h) (batch_of e)
    ∙ ap (λ l. steps_of r (batches h) ++ l)
    (sym (ap (λ g. steps_on r (steps_taken g e)) is ∙ own-completed r (groups_in (batches h)) (batch_of e) (batch_of e).marker))

taken_good : (g : WaitingGroups) (h : List Event) (e : Event) (r : ℕ) → g ≡ groups_in (batches h) → AreInFiles (h ++ e ∷ []) → AreSteps (steps_on r (steps_taken g e))
taken_good g h e r is files = steps_right (steps_of r (batches h)) _ (subst AreSteps (one_more g h e r is) (steps_good r (h ++ e ∷ []) files))

pub regions_taken : (q : LogQueue) (c : Context) (h : List Event) (e : Event) (new : MarkedRegions) → c.groups ≡ groups_in (batches h) →
    AreInFiles h → AreInFiles (h ++ e ∷ []) → AreExact q c.regions (batches h) → regions_after q c.regions (steps_taken c.groups e) ≡ Some new →
    AreExact q new (batches (h ++ e ∷ []))
regions_taken q c h e new is files files' ex m = record {
  each = λ r. subst (RegionStandsFor q r (region_in new r)) (sym (one_more c.groups h e r is))
      (read_holds q c.regions new (steps_taken c.groups e) (λ r. steps_of r (batches h)) (λ r. steps_good r h files)
      (λ r. taken_good c.groups h e r is files') ex.each m r);
  marked = λ r. read_marked q c.regions new (steps_taken c.groups e) m r ∙ ap (λ b. b || names r (steps_taken c.groups e)) (ex.marked r)
      ∙ ap (λ b. is_named r (batches h) || b)
      (sym (has_steps-own r (steps_taken c.groups e)) ∙ ap has_steps (own-completed r c.groups (batch_of e) (batch_of e).marker)
      ∙ by_batch r c.groups (batch_of e) (batch_of e).marker ∙ ap (λ g. names_by_batch r g (batch_of e) (batch_of e).marker) is)
      ∙ sym (named-one r (batches h) (batch_of e)) ∙ ap (is_named r) (sym (batches-append h (e ∷ [])));
}

pub taken_refused : (q : LogQueue) (c : Context) (h : List Event) (e : Event) → c.groups ≡ groups_in (batches h) → AreInFiles h →
    AreInFiles (h ++ e ∷ []) → AreExact q c.regions (batches h) → regions_after q c.regions (steps_taken c.groups e) ≡ None →
    (r : ℕ) × (after q r None (steps_of r (batches (h ++ e ∷ []))) ≡ None)
taken_refused q c h e is files files' ex m = let f = read_refused q c.regions (steps_taken c.groups e) (λ r. steps_of r (batches h)) (λ r. steps_good r h files) (λ r. taken_good c.groups h e r is files') ex.each m in
    (f.0, ap (after q f.0 None) (one_more c.groups h e f.0 is) ∙ f.1)

-- ---- the rewrite queue refuses no step

rewrite_step : (r : ℕ) (o : Option Table) (s : Step) → (u : Option Table) × (after_step Rewrite (table_of r o) s ≡ Some u)
rewrite_step r o (Run []) = (_, refl)
rewrite_step r o (Run (e ∷ run)) = (_, refl)
rewrite_step r o _ = (_, refl)

pub rewrite_after : (r : ℕ) (o : Option Table) (ss : List Step) → (u : Option Table) × (after Rewrite r o ss ≡ Some u)
rewrite_after r o [] = (o, refl)
rewrite_after r o (s ∷ ss) = let f = rewrite_step r o s in let g = rewrite_after r f.0 ss in (g.0, ap (option_and_then (λ u. after Rewrite r u ss)) f.1 ∙ g.1)

pub rewrite_read : (rs : MarkedRegions) (is : List RegionStep) → (new : MarkedRegions) × (regions_after Rewrite rs is ≡ Some new)
rewrite_read rs [] = (rs, refl)
rewrite_read rs (i ∷ is) = let f = rewrite_step i.region (region_in rs i.region).table i.step in
    let x : MarkedRegion = record { mark = joined_mark Rewrite i.region (region_in rs i.region).mark (region_in rs i.region).table (mark_of i.step); table = f.0 } in
    let g = rewrite_read (with_region rs i.region x) is in (
      g.0,
      ap (λ o. option_and_then (λ x. regions_after Rewrite (with_region rs i.region x) is)
          (option_map (λ t. record {
            mark = joined_mark Rewrite i.region (region_in rs i.region).mark (region_in rs i.region).table (mark_of i.step);
            table = t;
          }) o)) f.1 ∙ g.1,
    )

there_some : (b : Bool) (t : Table) → there_if b (Some t) ≡ None → ⊥
there_some true t e = cc
there_some false t e = cc

rewrite_marked : (r : ℕ) (o : Option Mark) (t : Option Table) (x : MarkedRegion) → joined_marked Rewrite r o t x ≡ None → ⊥
rewrite_marked r None t x e = cc
rewrite_marked r (Some m) t x e = there_some (is_there_over m t x.table) _ (map_none {B = MarkedRegion} (λ t. record { mark = joined_mark Rewrite r x.mark x.table m; table = t }) (table_over_older Rewrite r m t x.table) e)

pub rewrite_refused : (c d : Context) → AreRegionsRefused Rewrite c d → ⊥
rewrite_refused c d (inl e) = let f = rewrite_read c.regions (region_steps_of_wholes (whole_groups c.groups d.groups)) in no_both e f.1
rewrite_refused c d (inr f) = rewrite_marked f.2.0 (finite.get d.regions.marks f.2.0) (finite.get d.regions.tables f.2.0) (region_in f.0 f.2.0) f.2.1
