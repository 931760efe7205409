-- Numbers are read by extents alone: batches under other numbers have the same effects.
use Rattle.raft_history.proofs.Common.{Begin, Middle, End, flat_map-map, list_all-map, ◌≡◌, ◌≢◌, ℕ, suc, ◌+◌, ◌⊎◌, Bool, true, false, cond, ◌&&◌, List, [], ◌∷◌, ◌++◌, Option, Some, None, refl, sym, ap, ◌∙◌, inl, inr, arith, slice_index_or}
use Rattle.raft_history.proofs.Common.{map-append, filter, map, AllByRecursion, AtomicGroupStatus, GroupMarker, BatchSteps, Effect, completed_as, completed_by, effects_behind, effects, region_steps_in, steps_by, first_in, AreApart}
use Rattle.raft_history.proofs.Common.{EachApart, has_status, Numbered, numbered_from, is_of, markers_of, open_stretch, names, front_of, front_behind, stretch_of, group_of, not, eqb, append-nil, false≢true, eqb-true, eq-eqb, filter-append}
use Rattle.raft_history.proofs.Common.{steps_of, EndsNoEffect, without_group}
use Rattle.raft_history.proofs.Words.{region_steps_of, all_steps, are_middles}
use Rattle.raft_history.proofs.EffectLemmas.{by_completed, each_left, each_right}

module _ (f : ℕ → ℕ) where
  -- a batch under another number
  abbrev pub moved : Numbered → Numbered
  moved p = record { number = f p.number; batch = p.batch }

  abbrev pub moved_effect : Effect → Effect
  moved_effect e = record { earlier = map moved e.earlier; last = moved e.last }

  markers_of-moved : (g : ℕ) (ps : List Numbered) → markers_of g (map moved ps) ≡ map moved (markers_of g ps)
  unfolding markers_of
  markers_of-moved g [] = refl
  markers_of-moved g (p ∷ ps) = go (is_of g p.batch.marker) (markers_of-moved g ps)
    where
      go : (b : Bool) → filter (λ p. is_of g p.batch.marker) (map moved ps) ≡ map moved (filter (λ p. is_of g p.batch.marker) ps) →
          cond b (moved p ∷ filter (λ p. is_of g p.batch.marker) (map moved ps)) (filter (λ p. is_of g p.batch.marker) (map moved ps)) ≡ map
          moved (cond b (p ∷ filter (λ p. is_of g p.batch.marker) ps) (filter (λ p. is_of g p.batch.marker) ps))
      go true ih = ap (λ l. moved p ∷ l) ih
      go false ih = ih

  open_stretch-moved : (ps : List Numbered) → open_stretch (map moved ps) ≡ map moved (open_stretch ps)
  unfolding open_stretch
  open_stretch-moved [] = refl
  open_stretch-moved (p ∷ ps) = rw (list_all-map (λ (p : Numbered). has_status Middle p.batch.marker) moved ps, open_stretch-moved ps) (go (has_status Begin p.batch.marker && are_middles ps))
    where
      go : (b : Bool) → cond b (moved p ∷ map moved ps) (map moved (open_stretch ps)) ≡ map moved (cond b (p ∷ ps) (open_stretch ps))
      go true = refl
      go false = refl

  region_steps_of-moved : (ps : List Numbered) → region_steps_of (map moved ps) ≡ region_steps_of ps
  region_steps_of-moved ps = flat_map-map (λ (p : Numbered). p.batch.steps) moved ps

  front_of-moved : (ps : List Numbered) → front_of (map moved ps) ≡ front_of ps
  unfolding front_of
  front_of-moved [] = refl
  front_of-moved (p ∷ ps) = ap (front_behind p.batch.marker p.batch.steps p.batch.seq) (front_of-moved ps)

  stretch_of-moved : (ps : List Numbered) → stretch_of (map moved ps) ≡ stretch_of ps
  stretch_of-moved [] = refl
  stretch_of-moved (p ∷ ps) = ap (λ l. Some record { first_seq = p.batch.seq; steps = l }) (region_steps_of-moved (p ∷ ps))

  pub group_of-moved : (g : ℕ) (ps : List Numbered) → group_of g (map moved ps) ≡ group_of g ps
  group_of-moved g ps = rw (markers_of-moved g ps, front_of-moved (markers_of g ps), open_stretch-moved (markers_of g ps), stretch_of-moved (open_stretch (markers_of g ps))) refl

  completed-moved : (olds : List Numbered) (p : Numbered) → completed_by p.batch.marker (map moved olds) (moved p) ≡ map moved_effect (completed_by p.batch.marker olds p)
  completed-moved olds p = go p.batch.marker
    where
      end : (l : List Numbered) → completed_as End (map moved l) (moved p) ≡ map moved_effect (completed_as End l p)
      end [] = refl
      end (q ∷ qs) = refl

      at : (g : ℕ) (s : AtomicGroupStatus) → completed_as s (open_stretch (markers_of g (map moved olds))) (moved p) ≡ map moved_effect (completed_as s (open_stretch (markers_of g olds)) p)
      at g End = rw (markers_of-moved g olds, open_stretch-moved (markers_of g olds)) (end (open_stretch (markers_of g olds)))
      at g _ = refl

      go : (m : Option GroupMarker) → completed_by m (map moved olds) (moved p) ≡ map moved_effect (completed_by m olds p)
      go None = refl
      go (Some m) = at m.group m.status

  pub effects_behind-moved : (olds ps : List Numbered) → effects_behind (map moved olds) (map moved ps) ≡ map moved_effect (effects_behind olds ps)
  unfolding effects_behind
  effects_behind-moved olds [] = refl
  effects_behind-moved olds (p ∷ ps) = rw (completed-moved olds p, ← map-append moved olds (p ∷ []), effects_behind-moved (olds ++ p ∷ []) ps)
      (sym (map-append moved_effect (completed_by p.batch.marker olds p) (effects_behind (olds ++ p ∷ []) ps)))

  steps_in-moved : (r : ℕ) (l : List Numbered) (p : Numbered) → steps_by r (map moved l) (moved p) ≡ steps_by r l p
  steps_in-moved r [] p = refl
  steps_in-moved r (q ∷ qs) p = rw (region_steps_of-moved qs) refl

  pub all_steps-moved : (r : ℕ) (es : List Effect) → all_steps r (map moved_effect es) ≡ all_steps r es
  all_steps-moved r [] = refl
  all_steps-moved r (e ∷ es) = rw (steps_in-moved r e.earlier e.last, all_steps-moved r es) refl

  pub steps-moved : (r : ℕ) (ps : List Numbered) → all_steps r (effects_behind [] (map moved ps)) ≡ all_steps r (effects_behind [] ps)
  steps-moved r ps = ap (all_steps r) (effects_behind-moved [] ps) ∙ all_steps-moved r (effects_behind [] ps)

  first_in-moved : (e : Effect) → first_in (moved_effect e) ≡ f (first_in e)
  first_in-moved e = go e.earlier
    where
      go : (l : List Numbered) → (slice_index_or (map moved l) 0 (moved e.last)).number ≡ f (slice_index_or l 0 e.last).number
      go [] = refl
      go (q ∷ qs) = refl

  is_group-moved : (l : List Numbered) → l ≢ [] → map moved l ≢ []
  is_group-moved [] h x = h refl
  is_group-moved (q ∷ qs) h x = cc

-- where the history's batches are numbered from doesn't matter
abbrev onward : ℕ → ℕ → ℕ
onward k n = k + n

numbered_from-moved : (k n : ℕ) (h : List BatchSteps) → numbered_from (k + n) h ≡ map (moved (onward k)) (numbered_from n h)
numbered_from-moved k n [] = refl
numbered_from-moved k n (b ∷ bs) = ap (λ l. record { number = k + n; batch = b } ∷ l) (ap (λ x. numbered_from x bs) (omega arith) ∙ numbered_from-moved k (suc n) bs)

numbered_onward : (n : ℕ) (h : List BatchSteps) → numbered_from n h ≡ map (moved (onward n)) (numbered_from 0 h)
numbered_onward n h = ap (λ x. numbered_from x h) (omega arith) ∙ numbered_from-moved n 0 h

pub group_of-placed : (n g : ℕ) (h : List BatchSteps) → group_of g (numbered_from n h) ≡ group_of g (numbered_from 0 h)
group_of-placed n g h = ap (group_of g) (numbered_onward n h) ∙ group_of-moved (onward n) g (numbered_from 0 h)

pub effects-placed : (n : ℕ) (h : List BatchSteps) → effects_behind [] (numbered_from n h) ≡ map (moved_effect (onward n)) (effects h)
effects-placed n h = ap (effects_behind []) (numbered_onward n h) ∙ effects_behind-moved (onward n) [] (numbered_from 0 h)

pub steps-placed : (r n : ℕ) (h : List BatchSteps) → all_steps r (effects_behind [] (numbered_from n h)) ≡ all_steps r (effects h)
steps-placed r n h = ap (λ l. all_steps r (effects_behind [] l)) (numbered_onward n h) ∙ steps-moved (onward n) r (numbered_from 0 h)

-- effects that are apart, numbered from elsewhere
are_apart-moved : (k : ℕ) (e f : Effect) → AreApart (moved_effect (onward k) e) (moved_effect (onward k) f) → AreApart e f
are_apart-moved k e f h = λ overlap group r named also. h
    (rw (first_in-moved (onward k) e) (omega (arith, overlap.0)), rw (first_in-moved (onward k) f) (omega (arith, overlap.1)))
    (either group) r (ap (names r) (same_steps e) ∙ named) (ap (names r) (same_steps f) ∙ also)
  where
    same_steps : (e : Effect) → region_steps_in (moved_effect (onward k) e) ≡ region_steps_in e
    same_steps e = ap (λ l. l ++ e.last.batch.steps) (region_steps_of-moved (onward k) e.earlier)

    either : (e.earlier ≢ []) ⊎ (f.earlier ≢ []) → (map (moved (onward k)) e.earlier ≢ []) ⊎ (map (moved (onward k)) f.earlier ≢ [])
    either (inl x) = inl (is_group-moved (onward k) e.earlier x)
    either (inr x) = inr (is_group-moved (onward k) f.earlier x)

pub each_apart-moved : (k : ℕ) (es : List Effect) → EachApart (map (moved_effect (onward k)) es) → EachApart es
each_apart-moved k [] h = tt
each_apart-moved k (e ∷ es) h = (go es h.0, each_apart-moved k es h.1)
  where
    go : (fs : List Effect) → AllByRecursion (AreApart (moved_effect (onward k) e)) (map (moved_effect (onward k)) fs) → AllByRecursion (AreApart e) fs
    go [] h = tt
    go (f ∷ fs) h = (are_apart-moved k e f h.0, go fs h.1)

-- ---- a group that no effect ends changes nothing: without its batches the steps on every region are the same

abbrev is_other : ℕ → Numbered → Bool
is_other g p = not (is_of g p.batch.marker)

unfoldable others : ℕ → List Numbered → List Numbered
others g ps = filter (is_other g) ps

-- ---- the markers of another group

other_markers : (g l : ℕ) (ps : List Numbered) → eqb g l ≡ false → markers_of l (others g ps) ≡ markers_of l ps
unfolding markers_of others
other_markers g l [] n = refl
other_markers g l (p ∷ ps) n = go (is_of g p.batch.marker) refl (is_of l p.batch.marker) refl (other_markers g l ps n)
  where
    both : (m : Option GroupMarker) → is_of g m ≡ true → is_of l m ≡ true → eqb g l ≡ true
    both None e f = absurd (false≢true e)
    both (Some m) e f = ap (λ x. eqb x l) (eqb-true g m.group e) ∙ ap (λ x. eqb m.group x) (eqb-true l m.group f) ∙ self m.group
      where
        self : (x : ℕ) → eqb x x ≡ true
        self x = eq-eqb x x refl

    go : (a : Bool) → is_of g p.batch.marker ≡ a → (b : Bool) → is_of l p.batch.marker ≡ b → filter (λ p. is_of l p.batch.marker) (filter (is_other g) ps) ≡ filter (λ p. is_of l p.batch.marker) ps
        → filter (λ p. is_of l p.batch.marker) (cond (not a) (p ∷ filter (is_other g) ps) (filter (is_other g) ps)) ≡ cond b (p ∷ filter (λ p. is_of l p.batch.marker) ps) (filter (λ p. is_of l p.batch.marker) ps)
    go true e true f ih = absurd (false≢true (sym n ∙ both p.batch.marker e f))
    go true e false f ih = ih
    go false e true f ih = ap (λ b. cond b (p ∷ filter (λ p. is_of l p.batch.marker) (filter (is_other g) ps)) (filter (λ p. is_of l p.batch.marker) (filter (is_other g) ps))) f ∙ ap (λ l. p ∷ l) ih
    go false e false f ih = ap (λ b. cond b (p ∷ filter (λ p. is_of l p.batch.marker) (filter (is_other g) ps)) (filter (λ p. is_of l p.batch.marker) (filter (is_other g) ps))) f ∙ ih

abbrev EndsNone : ℕ → List Effect → Type 0
EndsNone g es = AllByRecursion (λ (e : Effect). is_of g e.last.batch.marker ≡ false) es

-- a batch of the group completes nothing
completes_none : (g : ℕ) (olds : List Numbered) (p : Numbered) → is_of g p.batch.marker ≡ true → EndsNone g (completed_by p.batch.marker olds p) → completed_by p.batch.marker olds p ≡ []
completes_none g olds p is h = by_completed (λ es. EndsNone g es → es ≡ []) olds p (λ h. refl) (λ e h. absurd (false≢true (sym h.0 ∙ is))) (λ l q qs m e h. absurd (false≢true (sym h.0 ∙ is))) h

-- another batch completes the same
completes_same : (g : ℕ) (olds : List Numbered) (p : Numbered) → is_of g p.batch.marker ≡ false → completed_by p.batch.marker (others g olds) p ≡ completed_by p.batch.marker olds p
completes_same g olds p not_own = go p.batch.marker not_own
  where
    go : (m : Option GroupMarker) → is_of g m ≡ false → completed_by m (others g olds) p ≡ completed_by m olds p
    go None e = refl
    go (Some m) e = ap (λ l. completed_as m.status (open_stretch l) p) (other_markers g m.group olds e)

effects_same : (g : ℕ) (olds ps : List Numbered) → EndsNone g (effects_behind olds ps) → effects_behind (others g olds) (others g ps) ≡ effects_behind olds ps
unfolding effects_behind others
effects_same g olds [] h = refl
effects_same g olds (p ∷ ps) h = go (is_of g p.batch.marker) refl (effects_same g (olds ++ p ∷ []) ps (each_right _ (completed_by p.batch.marker olds p) (effects_behind (olds ++ p ∷ []) ps) h))
  where
    go : (b : Bool) → is_of g p.batch.marker ≡ b → effects_behind (filter (is_other g) (olds ++ p ∷ [])) (filter (is_other g) ps) ≡ effects_behind (olds ++ p ∷ []) ps
        → effects_behind (filter (is_other g) olds) (cond (not b) (p ∷ filter (is_other g) ps) (filter (is_other g) ps)) ≡ completed_by p.batch.marker olds p ++ effects_behind (olds ++ p ∷ []) ps
    go true e ih = ap (λ l. effects_behind l (filter (is_other g) ps)) (sym (filter-append (is_other g) olds (p ∷ []) ∙ ap (λ b. filter (is_other g) olds ++ cond (not b) (p ∷ []) []) e ∙ append-nil (filter (is_other g) olds))) ∙ ih
        ∙ ap (λ l. l ++ effects_behind (olds ++ p ∷ []) ps) (sym (completes_none g olds p e (each_left _ (completed_by p.batch.marker olds p) (effects_behind (olds ++ p ∷ []) ps) h)))
    go false e ih = ap (λ l. l ++ effects_behind (filter (is_other g) olds ++ p ∷ []) (filter (is_other g) ps)) (completes_same g olds p e)
        ∙ ap (λ l. completed_by p.batch.marker olds p ++ effects_behind l (filter (is_other g) ps))
        (sym (filter-append (is_other g) olds (p ∷ []) ∙ ap (λ b. filter (is_other g) olds ++ cond (not b) (p ∷ []) []) e))
        ∙ ap (λ l. completed_by p.batch.marker olds p ++ l) ih

-- ---- numbers don't matter

abbrev unnumbered : List Numbered → List Numbered
unnumbered ps = map (moved (λ n. 0)) ps

placed_others : (g n m : ℕ) (h : List BatchSteps) → unnumbered (numbered_from n (without_group g h)) ≡ unnumbered (others g (numbered_from m h))
unfolding without_group others
placed_others g n m [] = refl
placed_others g n m (b ∷ h) = go (is_of g b.marker) (λ n. placed_others g n (suc m) h)
  where
    go : (x : Bool) → ((n : ℕ) → unnumbered (numbered_from n (filter (λ b. not (is_of g b.marker)) h)) ≡ unnumbered (filter (is_other g) (numbered_from (suc m) h)))
        → unnumbered (numbered_from n (cond (not x) (b ∷ filter (λ b. not (is_of g b.marker)) h) (filter (λ b. not (is_of g b.marker)) h)))
        ≡ unnumbered (cond (not x) (record { number = m; batch = b } ∷ filter (is_other g) (numbered_from (suc m) h)) (filter (is_other g) (numbered_from (suc m) h)))
    go true ih = ih n
    go false ih = ap (λ l. record { number = 0; batch = b } ∷ l) (ih (suc n))

pub incomplete_changes_nothing : (g : ℕ) (h : List BatchSteps) → EndsNoEffect g h → (r : ℕ) → steps_of r (without_group g h) ≡ steps_of r h
unfolding others
incomplete_changes_nothing g h n r = sym (steps-moved (λ n. 0) r (numbered_from 0 (without_group g h))) ∙ ap (λ l. all_steps r (effects_behind [] l)) (placed_others g 0 0 h)
    ∙ steps-moved (λ n. 0) r (others g (numbered_from 0 h)) ∙ ap (all_steps r) (effects_same g [] (numbered_from 0 h) n)
