-- The effects behind a cut: those of the newer batches alone, and the groups that become whole.
use Rattle.raft_history.proofs.Common.{Begin, Middle, End, IsMarkerOf, cases_Bool, front_behind, steps_or, ◌≡◌, ◌≢◌, ℕ, ◌+◌, ◌<◌, ◌≤◌, ◌⊎◌, Bool, true, false, cond, ◌||◌, eqb, List, [], ◌∷◌, ◌++◌, length, Option, Some, None, refl, sym, ap}
use Rattle.raft_history.proofs.Common.{subst, ◌∙◌, inl, inr, append_assoc, arith, flat_map-append, eqb-true, eq-eqb, flat_map, filter_map, AllByRecursion, list_any, IsDistinct, cons_option, AtomicGroupStatus, GroupMarker, BatchSteps}
use Rattle.raft_history.proofs.Common.{Effect, completed_by, effects_behind, whole_steps, region_steps_in, steps_by, first_in, EachApart, Numbered, numbered_from, is_of, markers_of, open_stretch, steps_of_wholes, IsListed, ListsGroups}
use Rattle.raft_history.proofs.Common.{RegionStep, names, GroupFront, Open, Ended, Begun, led_by, front_by, front_of, OpenStretch, stretch_of, group_of, WholeGroup, whole_of, whole_group, Step, completed_as, effects, steps_of, AreApart}
use Rattle.raft_history.proofs.Common.{wholes, joined_group, group_in}
use Rattle.std.proofs.lemmas.List.{append-nil}
use Rattle.raft_history.proofs.Words.{region_steps_of, all_steps, are_middles}
use Rattle.raft_history.proofs.EffectLemmas.{each_weaker, each-append, each_left, each_right, numbered_from-append, from_on, up_to, effects_behind-append, effects_behind-one, effects_behind-none, all_steps-append, all_steps-one}
use Rattle.raft_history.proofs.EffectLemmas.{steps_in-none, all_steps-unnamed, within, apart_left, apart_last, unnamed_between, by_push, open_among, apart_right}
use Rattle.raft_history.proofs.StepListLemmas.{eqb_flip, head_none, tail_none}
use Rattle.raft_history.proofs.MarkerLemmas.{markers_of-append, open_stretch-append, middles_open_none, front_with, front_of-append, FitsFront, fits_front, with_more, whole_is, group_of-append}
use Rattle.raft_history.proofs.ShiftLemmas.{group_of-placed, effects-placed, steps-placed, each_apart-moved}

-- what a group gives at the cut
abbrev pub given : ℕ → List Numbered → List Numbered → ℕ → List Step
given r olds news g = steps_or r (whole_of (stretch_of (open_stretch (markers_of g olds))) (front_of (markers_of g news)))

abbrev pub all_given : ℕ → List ℕ → List Numbered → List Numbered → List Step
all_given r ids olds news = flat_map (given r olds news) ids

-- the groups that are whole at the cut
abbrev pub wholes_at : List ℕ → List Numbered → List Numbered → List WholeGroup
wholes_at ids olds news = filter_map (λ g. whole_group (group_of g olds) (group_of g news)) ids

pub given_wholes : (r : ℕ) (ids : List ℕ) (olds news : List Numbered) → steps_of_wholes r (wholes_at ids olds news) ≡ all_given r ids olds news
unfolding steps_of_wholes
given_wholes r [] olds news = refl
given_wholes r (g ∷ ids) olds news = rw (whole_is (markers_of g olds) (front_of (markers_of g news))) (go (whole_of (stretch_of (open_stretch (markers_of g olds))) (front_of (markers_of g news))) (given_wholes r ids olds news))
  where
    group_steps : WholeGroup → List Step
    group_steps w = whole_steps r w.steps w.first_seq w.last_seq

    go : (w : Option WholeGroup) → flat_map group_steps (wholes_at ids olds news) ≡ all_given r ids olds news → flat_map group_steps (cons_option w (wholes_at ids olds news)) ≡ steps_or r w ++ all_given r ids olds news
    go None ih = ih
    go (Some w) ih = ap (λ l. group_steps w ++ l) ih

-- one key's part changes, and all others give nothing
changed_one : (f h : ℕ → List Step) (k : ℕ) (ids : List ℕ) → IsDistinct eqb ids → list_any (λ g. eqb g k) ids ≡ true → ((g : ℕ) → eqb g k ≡ false → h g ≡ f g) → flat_map f ids ≡ [] → flat_map h ids ≡ h k
unfolding IsDistinct
changed_one f h k [] one listed same none = cc
changed_one f h k (g ∷ ids) one listed same none = go (eqb g k) refl listed (changed_one f h k ids one.1)
  where
    others : (x : ℕ) (l : List ℕ) → x ≡ k → AllByRecursion (λ y. eqb x y ≡ false) l → flat_map f l ≡ [] → flat_map h l ≡ []
    others x [] e a n = refl
    others x (y ∷ l) e a n = rw (same y (eqb_flip y k ∙ subst (λ z. eqb z y ≡ false) e a.0), head_none (f y) (flat_map f l) n) (others x l e a.1 (tail_none (f y) (flat_map f l) n))

    go : (b : Bool) → eqb g k ≡ b → (b || list_any (λ g. eqb g k) ids) ≡ true → (list_any (λ g. eqb g k) ids ≡ true → ((g : ℕ) → eqb g k ≡ false → h g ≡ f g) → flat_map f ids ≡ [] → flat_map h ids ≡ h k) → h g ++ flat_map h ids ≡ h k
    go true e l ih = rw (others g ids (eqb-true g k e) one.0 (tail_none (f g) (flat_map f ids) none)) (append-nil (h g) ∙ ap h (eqb-true g k e))
    go false e l ih = rw (same g e, head_none (f g) (flat_map f ids) none) (ih l same (tail_none (f g) (flat_map f ids) none))

-- the markers of one batch
pub markers_none : (g : ℕ) (p : Numbered) → is_of g p.batch.marker ≡ false → markers_of g (p ∷ []) ≡ []
unfolding markers_of
markers_none g p h = rw h refl

pub markers_one : (g : ℕ) (p : Numbered) → is_of g p.batch.marker ≡ true → markers_of g (p ∷ []) ≡ p ∷ []
unfolding markers_of
markers_one g p h = rw h refl

pub markers_other : (g : ℕ) (ps : List Numbered) (p : Numbered) → is_of g p.batch.marker ≡ false → markers_of g (ps ++ p ∷ []) ≡ markers_of g ps
markers_other g ps p h = markers_of-append g ps (p ∷ []) ∙ ap (λ l. markers_of g ps ++ l) (markers_none g p h) ∙ append-nil (markers_of g ps)

pub markers_more : (g : ℕ) (ps : List Numbered) (p : Numbered) → is_of g p.batch.marker ≡ true → markers_of g (ps ++ p ∷ []) ≡ markers_of g ps ++ p ∷ []
markers_more g ps p h = markers_of-append g ps (p ∷ []) ∙ ap (λ l. markers_of g ps ++ l) (markers_one g p h)

-- where the batches stand behind a cut, one more batch gives as much in both readings, or ends a group that the cut divides
pub record Same (r : ℕ) (ids : List ℕ) (olds news : List Numbered) (p : Numbered) : Type 0 where
  pub steps : all_steps r (completed_by p.batch.marker (olds ++ news) p) ≡ all_steps r (completed_by p.batch.marker news p)
  pub given : all_given r ids olds (news ++ p ∷ []) ≡ all_given r ids olds news

pub record Divided (r : ℕ) (ids : List ℕ) (olds news : List Numbered) (p : Numbered) : Type 0 where
  pub group : GroupMarker
  pub effect : Effect
  pub completes : completed_by p.batch.marker (olds ++ news) p ≡ effect ∷ []
  pub alone : completed_by p.batch.marker news p ≡ []
  pub is_group : effect.earlier ≢ []
  pub began : (n : ℕ) → AllByRecursion (λ q. q.number < n) olds → first_in effect < n
  pub ends : effect.last.number ≡ p.number
  pub named : names r (region_steps_in effect) ≡ true
  pub marker : p.batch.marker ≡ Some group
  pub others : (g : ℕ) → eqb g group.group ≡ false → given r olds (news ++ p ∷ []) g ≡ given r olds news g
  pub steps : given r olds (news ++ p ∷ []) group.group ≡ steps_by r effect.earlier effect.last

abbrev pub Grows : ℕ → List ℕ → List Numbered → List Numbered → Numbered → Type 0
Grows r ids olds news p = Same r ids olds news p ⊎ Divided r ids olds news p

-- no part changes
all_same : (r : ℕ) (ids : List ℕ) (olds news more : List Numbered) → ((g : ℕ) → given r olds more g ≡ given r olds news g) → all_given r ids olds more ≡ all_given r ids olds news
all_same r ids olds news more h = ap (λ (f : ℕ → List Step). flat_map f ids) (λ j g. h g j)

given_other : (r : ℕ) (olds news : List Numbered) (p : Numbered) (g : ℕ) → is_of g p.batch.marker ≡ false → given r olds (news ++ p ∷ []) g ≡ given r olds news g
given_other r olds news p g h = ap (λ l. steps_or r (whole_of (stretch_of (open_stretch (markers_of g olds))) (front_of l))) (markers_other g news p h)

-- what isn't an End makes nothing whole
whole_not_end : (s : Option OpenStretch) (f h : GroupFront) → ((x : OpenStretch) → whole_of (Some x) h ≡ None) →
    ((x : OpenStretch) (is : List RegionStep) → whole_of (Some x) (led_by is h) ≡ None) → whole_of s (front_with f h) ≡ whole_of s f
whole_not_end None f h none led = refl
whole_not_end (Some x) (Open js) h none led = led x js
whole_not_end (Some x) (Ended js k) h none led = refl
whole_not_end (Some x) Begun h none led = refl

open_across : (g : ℕ) (olds news : List Numbered) (b : Bool) (o : List Numbered) → are_middles (markers_of g news) ≡ b →
    open_stretch (markers_of g olds) ≡ o → open_stretch (markers_of g (olds ++ news)) ≡ cond b (with_more o (markers_of g news))
    (open_stretch (markers_of g news))
open_across g olds news b o h k = rw (markers_of-append g olds news, open_stretch-append (markers_of g olds) (markers_of g news), h, k) refl

-- what the batch's own group gives with it, by what its marker makes of the front
abbrev given_with : ℕ → List Numbered → List Numbered → Numbered → ℕ → AtomicGroupStatus → List Step
given_with r olds news p k s = steps_or r (whole_of (stretch_of (open_stretch (markers_of k olds))) (front_with (front_of (markers_of k news)) (front_by s p.batch.steps p.batch.seq (Open []))))

-- one batch more, with a group marker
module _ (r : ℕ) (ids : List ℕ) (olds news : List Numbered) (p : Numbered) (k : ℕ) (s : AtomicGroupStatus) (m : IsMarkerOf k s p) where
  front_own : front_of (p ∷ []) ≡ front_by s p.batch.steps p.batch.seq (Open [])
  unfolding front_of
  front_own = ap (λ o. front_behind o p.batch.steps p.batch.seq (Open [])) m

  given_own : given r olds (news ++ p ∷ []) k ≡ given_with r olds news p k s
  given_own = ap (λ l. steps_or r (whole_of (stretch_of (open_stretch (markers_of k olds))) l))
      (ap front_of (markers_more k news p (ap (is_of k) m ∙ eq-eqb k k refl)) ∙ front_of-append (markers_of k news) (p ∷ []) ∙ ap (front_with (front_of (markers_of k news))) front_own)

  -- one group alone could change, and doesn't
  kept : given_with r olds news p k s ≡ given r olds news k → (g : ℕ) → given r olds (news ++ p ∷ []) g ≡ given r olds news g
  kept same g = elim (cases_Bool (eqb g k)) [
    | inl e ↦ subst (λ x. given r olds (news ++ p ∷ []) x ≡ given r olds news x) (sym (eqb-true g k e)) (given_own ∙ same)
    | inr e ↦ given_other r olds news p g (ap (is_of g) m ∙ e)
  ]

  unchanged : all_steps r (completed_by p.batch.marker (olds ++ news) p) ≡ all_steps r (completed_by p.batch.marker news p) → given_with r olds news p k s ≡ given r olds news k → Grows r ids olds news p
  unchanged steps same = inl record { steps = steps; given = all_same r ids olds news (news ++ p ∷ []) (kept same) }

-- an End, where the newer batches have Middles of the group alone and the older ones leave its stretch open
grows_whole : (r : ℕ) (ids : List ℕ) (olds news : List Numbered) (p : Numbered) (k : ℕ) → IsMarkerOf k End p → (js : List RegionStep) (q : Numbered) (qs : List Numbered) →
    front_of (markers_of k news) ≡ Open js → FitsFront (Open js) (markers_of k news) → open_stretch (markers_of k olds) ≡ q ∷ qs → Grows r ids olds news p
grows_whole r ids olds news p k m js q qs e h o = go (names r (region_steps_in effect)) refl
  where
    effect : Effect
    effect = record { earlier = q ∷ (qs ++ markers_of k news); last = p }

    completes : completed_by p.batch.marker (olds ++ news) p ≡ effect ∷ []
    completes = rw (m, open_across k olds news true (q ∷ qs) h.0 o) refl

    alone : completed_by p.batch.marker news p ≡ []
    alone = rw (m, middles_open_none (markers_of k news) h.0) refl

    same_steps : region_steps_of (q ∷ qs) ++ (js ++ p.batch.steps) ≡ region_steps_of (q ∷ (qs ++ markers_of k news)) ++ p.batch.steps
    same_steps = rw (h.1, ← append_assoc (region_steps_of (q ∷ qs)) (region_steps_of (markers_of k news)) p.batch.steps) (ap (λ l. l ++ p.batch.steps) (sym (flat_map-append (λ x. x.batch.steps) (q ∷ qs) (markers_of k news))))

    steps : given_with r olds news p k End ≡ steps_by r (q ∷ (qs ++ markers_of k news)) p
    steps = rw (o, e) (ap (λ l. whole_steps r l q.batch.seq p.batch.seq) same_steps)

    none : given r olds news k ≡ []
    none = rw (o, e) refl

    go : (b : Bool) → names r (region_steps_in effect) ≡ b → Grows r ids olds news p
    go true named = inr record {
      group = record { group = k; status = End };
      effect = effect;
      completes = completes;
      alone = alone;
      is_group = λ x. cc;
      began = λ n below. (open_among (λ x. x.number < n) k olds q qs below o).0;
      ends = refl;
      named = named;
      marker = m;
      others = λ g x. given_other r olds news p g (ap (is_of g) m ∙ x);
      steps = given_own r ids olds news p k End m ∙ steps;
    }
    go false named =
        let unnamed : steps_by r (q ∷ (qs ++ markers_of k news)) p ≡ [] = steps_in-none r effect named in
        unchanged r ids olds news p k End m (rw (completes, alone) (all_steps-one r effect ∙ unnamed)) (steps ∙ unnamed ∙ sym none)

-- an End
grows_end : (r : ℕ) (ids : List ℕ) (olds news : List Numbered) (p : Numbered) (k : ℕ) → IsMarkerOf k End p → Grows r ids olds news p
grows_end r ids olds news p k m = go (front_of (markers_of k news)) refl (fits_front (markers_of k news))
  where
    open_front : (js : List RegionStep) → front_of (markers_of k news) ≡ Open js → FitsFront (Open js) (markers_of k news) → (o : List Numbered) → open_stretch (markers_of k olds) ≡ o → Grows r ids olds news p
    open_front js e h [] o = unchanged r ids olds news p k End m (rw (m, open_across k olds news true [] h.0 o, middles_open_none (markers_of k news) h.0) refl) (rw o refl)
    open_front js e h (q ∷ qs) o = grows_whole r ids olds news p k m js q qs e h o

    closed_front : are_middles (markers_of k news) ≡ false → given_with r olds news p k End ≡ given r olds news k → Grows r ids olds news p
    closed_front h = unchanged r ids olds news p k End m (rw (m, open_across k olds news false (open_stretch (markers_of k olds)) h refl) refl)

    go : (t : GroupFront) → front_of (markers_of k news) ≡ t → FitsFront t (markers_of k news) → Grows r ids olds news p
    go (Open js) e h = open_front js e h (open_stretch (markers_of k olds)) refl
    go (Ended js l) e h = closed_front h (rw e refl)
    go Begun e h = closed_front h (rw e refl)

pub grows : (r : ℕ) (ids : List ℕ) (olds news : List Numbered) (p : Numbered) → Grows r ids olds news p
grows r ids olds news p = go p.batch.marker refl
  where
    by : (k : ℕ) (s : AtomicGroupStatus) → IsMarkerOf k s p → Grows r ids olds news p
    by k Begin m = unchanged r ids olds news p k Begin m (rw m refl) (ap (steps_or r) (whole_not_end (stretch_of (open_stretch (markers_of k olds))) (front_of (markers_of k news)) Begun (λ x. refl) (λ x js. refl)))
    by k Middle m = unchanged r ids olds news p k Middle m (rw m refl)
        (ap (steps_or r) (whole_not_end (stretch_of (open_stretch (markers_of k olds))) (front_of (markers_of k news)) (Open (p.batch.steps ++ [])) (λ x. refl) (λ x js. refl)))
    by k End m = grows_end r ids olds news p k m

    go : (m : Option GroupMarker) → p.batch.marker ≡ m → Grows r ids olds news p
    go None e = inl record { steps = rw e refl; given = all_same r ids olds news (news ++ p ∷ []) (λ g. given_other r olds news p g (ap (is_of g) e)) }
    go (Some m) e = by m.group m.status e

-- one more batch behind a cut
grow : (r n : ℕ) (ids : List ℕ) (olds news : List Numbered) (p : Numbered) → AllByRecursion (λ q. q.number < n) olds → AllByRecursion (λ q. n ≤ q.number) news → AllByRecursion (λ q. q.number < p.number) (olds ++ news) →
    IsDistinct eqb ids → IsListed ids p.batch.marker → EachApart (effects_behind olds news ++ completed_by p.batch.marker (olds ++ news) p) →
    all_steps r (effects_behind olds news) ≡ all_given r ids olds news ++ all_steps r (effects_behind [] news) →
    all_steps r (effects_behind olds news) ++ all_steps r (completed_by p.batch.marker (olds ++ news) p) ≡ all_given r ids olds (news ++ p ∷ []) ++ (all_steps r (effects_behind [] news) ++ all_steps r (completed_by p.batch.marker news p))
grow r n ids olds news p below from to one listed apart ih = go (grows r ids olds news p)
  where
    go : Grows r ids olds news p → all_steps r (effects_behind olds news) ++ all_steps r (completed_by p.batch.marker (olds ++ news) p) ≡ all_given r
        ids olds (news ++ p ∷ []) ++ (all_steps r (effects_behind [] news) ++ all_steps r (completed_by p.batch.marker news p))
    go (inl same) = rw (same.steps, same.given, ih) (append_assoc (all_given r ids olds news) (all_steps r (effects_behind [] news)) (all_steps r (completed_by p.batch.marker news p)))
    go (inr d) = rw (none, d.completes, d.alone, rest_none, given_one)
        (all_steps-one r d.effect ∙ sym (append-nil (steps_by r d.effect.earlier d.effect.last)))
      where
        unnamed : AllByRecursion (λ e. names r (region_steps_in e) ≡ false) (effects_behind olds news)
        unnamed = unnamed_between r n p.number (effects_behind olds news) d.effect
            (within n p.number olds news (each_left (λ q. q.number < p.number) olds news to) from (each_right (λ q. q.number < p.number) olds news to))
            (apart_last (effects_behind olds news) d.effect (subst (λ l. EachApart (effects_behind olds news ++ l)) d.completes apart))
            d.is_group (d.began n below) d.ends d.named

        none : all_steps r (effects_behind olds news) ≡ []
        none = all_steps-unnamed r (effects_behind olds news) unnamed

        rest_none : all_steps r (effects_behind [] news) ≡ []
        rest_none = tail_none (all_given r ids olds news) (all_steps r (effects_behind [] news)) (sym ih ∙ none)

        given_one : all_given r ids olds (news ++ p ∷ []) ≡ steps_by r d.effect.earlier d.effect.last
        given_one = changed_one (given r olds news) (given r olds (news ++ p ∷ [])) d.group.group ids one (subst (IsListed ids) d.marker listed)
            d.others (head_none (all_given r ids olds news) (all_steps r (effects_behind [] news)) (sym ih ∙ none)) ∙ d.steps

-- no batches behind the cut
given_none : (r : ℕ) (olds : List Numbered) (g : ℕ) → given r olds [] g ≡ []
unfolding markers_of front_of
given_none r olds g = go (stretch_of (open_stretch (markers_of g olds)))
  where
    go : (s : Option OpenStretch) → steps_or r (whole_of s (Open [])) ≡ []
    go None = refl
    go (Some s) = refl

all_given_none : (r : ℕ) (ids : List ℕ) (olds : List Numbered) → all_given r ids olds [] ≡ []
all_given_none r [] olds = refl
all_given_none r (g ∷ ids) olds = rw (given_none r olds g) (all_given_none r ids olds)

-- the effects behind a cut are those of the newer batches alone, and before them the groups that become whole
record Holds (r n : ℕ) (ids : List ℕ) (olds : List Numbered) (h : List BatchSteps) : Type 0 where
  steps : ListsGroups ids h → EachApart (effects_behind olds (numbered_from n h)) → all_steps r (effects_behind olds (numbered_from n h)) ≡ all_given r ids olds (numbered_from n h) ++ all_steps r (effects_behind [] (numbered_from n h))

pub behind_cut : (r n : ℕ) (ids : List ℕ) (olds : List Numbered) → AllByRecursion (λ q. q.number < n) olds → IsDistinct eqb ids → (h : List BatchSteps) → ListsGroups ids h → EachApart (effects_behind olds (numbered_from n h)) →
    all_steps r (effects_behind olds (numbered_from n h)) ≡ all_given r ids olds (numbered_from n h) ++ all_steps r (effects_behind [] (numbered_from n h))
behind_cut r n ids olds below one h = (by_push (Holds r n ids olds) none more h).steps
  where
    none : Holds r n ids olds []
    none = record { steps = λ listed apart. rw (all_given_none r ids olds, effects_behind-none olds, effects_behind-none []) refl }

    more : (k : List BatchSteps) (b : BatchSteps) → Holds r n ids olds k → Holds r n ids olds (k ++ b ∷ [])
    more k b ih = record {
      steps = λ listed. rw (numbered_from-append n k (b ∷ []))
          (go (numbered_from n k) record { number = n + length k; batch = b } (from_on n k) (up_to n (n + length k) k (omega arith)) (each_weaker (λ q. q.number < n) (λ q. q.number < n + length k) (λ q h. omega arith) olds below)
          (each_right (λ x. IsListed ids x.marker) k (b ∷ []) listed).0 (ih.steps (each_left (λ x. IsListed ids x.marker) k (b ∷ []) listed)));
    }
      where
        go : (news : List Numbered) (p : Numbered) → AllByRecursion (λ q. n ≤ q.number) news → AllByRecursion (λ q. q.number < p.number) news → AllByRecursion (λ q. q.number < p.number) olds → IsListed ids p.batch.marker →
            (EachApart (effects_behind olds news) → all_steps r (effects_behind olds news) ≡ all_given r ids olds news ++ all_steps r (effects_behind [] news)) →
            EachApart (effects_behind olds (news ++ p ∷ [])) → all_steps r (effects_behind olds (news ++ p ∷ [])) ≡ all_given r ids olds (news ++ p ∷ []) ++ all_steps r (effects_behind [] (news ++ p ∷ []))
        go news p from to old listed ih = rw (
          effects_behind-append olds news (p ∷ []),
          effects_behind-append [] news (p ∷ []),
          effects_behind-one (olds ++ news) p,
          effects_behind-one news p,
          all_steps-append r (effects_behind olds news)
              (completed_by p.batch.marker (olds ++ news) p),
          all_steps-append r (effects_behind [] news) (completed_by p.batch.marker news p),
        )
            (λ apart. grow r n ids olds news p below from (each-append (λ q. q.number < p.number) olds news old to) one listed apart (ih (apart_left (effects_behind olds news) (completed_by p.batch.marker (olds ++ news) p) apart)))

-- ---- joined histories: their steps, that both are apart where they are apart together, and what is known of their groups

pub group_in-append : (g : ℕ) (h k : List BatchSteps) → group_in g (h ++ k) ≡ joined_group (group_in g h) (group_in g k)
group_in-append g h k = ap (group_of g) (numbered_from-append 0 h k) ∙ group_of-append g (numbered_from 0 h) (numbered_from (0 + length h) k) ∙ ap (joined_group (group_in g h)) (group_of-placed (0 + length h) g k)

pub effects-append : (h k : List BatchSteps) → effects (h ++ k) ≡ effects h ++ effects_behind (numbered_from 0 h) (numbered_from (length h) k)
effects-append h k = ap (effects_behind []) (numbered_from-append 0 h k)
    ∙ effects_behind-append [] (numbered_from 0 h) (numbered_from (0 + length h) k)
    ∙ ap (λ x. effects h ++ effects_behind (numbered_from 0 h) (numbered_from x k)) (omega arith)

pub joined_steps : (r : ℕ) (ids : List ℕ) (h k : List BatchSteps) → IsDistinct eqb ids → ListsGroups ids k → EachApart (effects (h ++ k)) → steps_of r (h ++ k) ≡ steps_of r h ++ (steps_of_wholes r (wholes ids h k) ++ steps_of r k)
joined_steps r ids h k one listed apart =
    ap (all_steps r) (effects-append h k) ∙ all_steps-append r (effects h) (effects_behind (numbered_from 0 h) (numbered_from (length h) k))
    ∙ ap (λ l. steps_of r h ++ l) (behind_cut r (length h) ids (numbered_from 0 h) (up_to 0 (length h) h (omega arith)) one k listed (apart_right (effects h) _ (subst EachApart (effects-append h k) apart))
    ∙ ap (λ l. l ++ all_steps r (effects_behind [] (numbered_from (length h) k))) (sym (given_wholes r ids (numbered_from 0 h) (numbered_from (length h) k))
    ∙ ap (steps_of_wholes r) (ap (λ (f : ℕ → Option WholeGroup). filter_map f ids) (λ j g. whole_group (group_in g h) (group_of-placed (length h) g k j))))
    ∙ ap (λ l. steps_of_wholes r (wholes ids h k) ++ l) (steps-placed r (length h) k))

-- stretches of an apart history are apart
pub apart_front : (h k : List BatchSteps) → EachApart (effects (h ++ k)) → EachApart (effects h)
apart_front h k apart = apart_left (effects h) (effects_behind (numbered_from 0 h) (numbered_from (length h) k)) (subst EachApart (effects-append h k) apart)

-- what a batch completes behind some batches it completes behind more, or it completes nothing there
kept_or_none : (olds news : List Numbered) (p : Numbered) → (completed_by p.batch.marker (olds ++ news) p ≡ completed_by p.batch.marker news p) ⊎ (completed_by p.batch.marker news p ≡ [])
kept_or_none olds news p = go p.batch.marker
  where
    go : (m : Option GroupMarker) → (completed_by m (olds ++ news) p ≡ completed_by m news p) ⊎ (completed_by m news p ≡ [])
    go None = inl refl
    go (Some m) = at m.status
      where
        at : (s : AtomicGroupStatus) → (completed_as s (open_stretch (markers_of m.group (olds ++ news))) p ≡ completed_as s (open_stretch (markers_of m.group news)) p) ⊎ (completed_as s (open_stretch (markers_of m.group news)) p ≡ [])
        at Begin = inl refl
        at Middle = inl refl
        at End = by (are_middles (markers_of m.group news)) refl
          where
            by : (b : Bool) → are_middles (markers_of m.group news) ≡ b →
                (completed_as End (open_stretch (markers_of m.group (olds ++ news))) p ≡ completed_as End (open_stretch (markers_of m.group news)) p)
                ⊎ (completed_as End (open_stretch (markers_of m.group news)) p ≡ [])
            by true e = inr (rw (middles_open_none (markers_of m.group news) e) refl)
            by false e = inl (rw (markers_of-append m.group olds news, open_stretch-append (markers_of m.group olds) (markers_of m.group news), e) refl)

each_behind : (P : Effect → Type 0) (olds news ps : List Numbered) → AllByRecursion P (effects_behind (olds ++ news) ps) → AllByRecursion P (effects_behind news ps)
unfolding effects_behind
each_behind P olds news [] h = tt
each_behind P olds news (p ∷ ps) h = each-append P (completed_by p.batch.marker news p) (effects_behind (news ++ p ∷ []) ps) (first (kept_or_none olds news p))
    (each_behind P olds (news ++ p ∷ []) ps
    (subst (λ l. AllByRecursion P (effects_behind l ps)) (append_assoc olds news (p ∷ []))
    (each_right P (completed_by p.batch.marker (olds ++ news) p) (effects_behind ((olds ++ news) ++ p ∷ []) ps) h)))
  where
    first : (completed_by p.batch.marker (olds ++ news) p ≡ completed_by p.batch.marker news p) ⊎ (completed_by p.batch.marker news p ≡ []) → AllByRecursion P (completed_by p.batch.marker news p)
    first (inl e) = subst (AllByRecursion P) e (each_left P (completed_by p.batch.marker (olds ++ news) p) (effects_behind ((olds ++ news) ++ p ∷ []) ps) h)
    first (inr e) = subst (AllByRecursion P) (sym e) tt

apart_fewer : (es fs gs : List Effect) → ((e : Effect) → AllByRecursion (AreApart e) fs → AllByRecursion (AreApart e) gs) → EachApart gs → EachApart (es ++ fs) → EachApart (es ++ gs)
apart_fewer [] fs gs fewer k h = k
apart_fewer (e ∷ es) fs gs fewer k h = (each-append (AreApart e) es gs (each_left (AreApart e) es fs h.0) (fewer e (each_right (AreApart e) es fs h.0)), apart_fewer es fs gs fewer k h.1)

apart_behind : (olds news ps : List Numbered) → EachApart (effects_behind (olds ++ news) ps) → EachApart (effects_behind news ps)
unfolding effects_behind
apart_behind olds news [] h = tt
apart_behind olds news (p ∷ ps) h = first (kept_or_none olds news p)
    (apart_behind olds (news ++ p ∷ []) ps
    (subst EachApart same (apart_right (completed_by p.batch.marker (olds ++ news) p) (effects_behind ((olds ++ news) ++ p ∷ []) ps) h)))
  where
    same : effects_behind ((olds ++ news) ++ p ∷ []) ps ≡ effects_behind (olds ++ (news ++ p ∷ [])) ps
    same = ap (λ l. effects_behind l ps) (append_assoc olds news (p ∷ []))

    first : (completed_by p.batch.marker (olds ++ news) p ≡ completed_by p.batch.marker news p) ⊎ (completed_by p.batch.marker news p ≡ []) →
        EachApart (effects_behind (news ++ p ∷ []) ps) → EachApart (completed_by p.batch.marker news p ++ effects_behind (news ++ p ∷ []) ps)
    first (inr e) rest = rw e rest
    first (inl e) rest = apart_fewer (completed_by p.batch.marker news p) (effects_behind (olds ++ (news ++ p ∷ [])) ps) (effects_behind (news ++ p ∷ []) ps) (λ x. each_behind (AreApart x) olds (news ++ p ∷ []) ps) rest
        (subst (λ l. EachApart (l ++ effects_behind (olds ++ (news ++ p ∷ [])) ps)) e (subst (λ l. EachApart (completed_by p.batch.marker (olds ++ news) p ++ l)) same h))

pub apart_back : (h k : List BatchSteps) → EachApart (effects (h ++ k)) → EachApart (effects k)
apart_back h k apart =
    each_apart-moved (length h) (effects k) (subst EachApart (effects-placed (length h) k) (apart_behind (numbered_from 0 h) [] (numbered_from (length h) k)
    (subst (λ l. EachApart (effects_behind l (numbered_from (length h) k))) (sym (append-nil (numbered_from 0 h)))
    (apart_right (effects h) (effects_behind (numbered_from 0 h) (numbered_from (length h) k)) (subst EachApart (effects-append h k) apart)))))
