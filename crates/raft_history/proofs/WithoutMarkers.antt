-- Which regions are named, histories without markers, and that the groups of one cut name different regions.
use Rattle.raft_history.proofs.Common.{or_parts, ◌≡◌, ℕ, suc, Bool, true, false, cond, ◌↔◌, ◌||◌, List, [], ◌∷◌, ◌++◌, None, refl, sym, ap, subst, ◌∙◌, inl, inr, filter, flat_map, map, AllByRecursion, list_any, BatchSteps, Effect}
use Rattle.raft_history.proofs.Common.{completed_by, effects_behind, effects, whole_steps, region_steps_in, steps_by, steps_of, AreApart, EachApart, is_named, Numbered, numbered_from, RegionStep, names, steps_on}
use Rattle.raft_history.proofs.Words.{is_on, region_steps_of, steps_in, all_steps}
use Rattle.raft_history.proofs.EffectLemmas.{steps_in-none}
use Rattle.raft_history.proofs.StepListLemmas.{head_none, tail_none}

-- what is named has steps
pub steps_on-some : (r : ℕ) (is : List RegionStep) → steps_on r is ≡ [] → names r is ≡ false
unfolding steps_on names
steps_on-some r [] h = refl
steps_on-some r (i ∷ is) h = go (is_on r i) h (steps_on-some r is)
  where
    go : (b : Bool) → map (λ i. i.step) (cond b (i ∷ filter (is_on r) is) (filter (is_on r) is)) ≡ [] → (map (λ i. i.step) (filter (is_on r) is) ≡ [] → list_any (is_on r) is ≡ false) → (b || list_any (is_on r) is) ≡ false
    go true h ih = cc
    go false h ih = ih h

steps_in-some : (r : ℕ) (e : Effect) → steps_by r e.earlier e.last ≡ [] → names r (region_steps_in e) ≡ false
unfolding whole_steps
steps_in-some r e h = go e.earlier h
  where
    go : (l : List Numbered) → steps_by r l e.last ≡ [] → names r (region_steps_of l ++ e.last.batch.steps) ≡ false
    go [] h = steps_on-some r e.last.batch.steps h
    go (q ∷ qs) h = steps_on-some r (region_steps_of (q ∷ qs) ++ e.last.batch.steps) (head_none _ _ h)

pub unnamed_steps : (r : ℕ) (es : List Effect) → list_any (λ e. names r (region_steps_in e)) es ≡ false → all_steps r es ≡ []
unnamed_steps r [] h = refl
unnamed_steps r (e ∷ es) h = let n = or_parts (names r (region_steps_in e)) (list_any (λ e. names r (region_steps_in e)) es) h in rw (steps_in-none r e n.0) (unnamed_steps r es n.1)

pub no_steps_unnamed : (r : ℕ) (es : List Effect) → all_steps r es ≡ [] → list_any (λ e. names r (region_steps_in e)) es ≡ false
no_steps_unnamed r [] h = refl
no_steps_unnamed r (e ∷ es) h = rw (steps_in-some r e (head_none _ _ h)) (no_steps_unnamed r es (tail_none (steps_by r e.earlier e.last) (flat_map (steps_in r) es) h))

-- without markers (as in the append queue) each batch is an effect, and the effects are apart
alone : (olds : List Numbered) (h : List BatchSteps) (n : ℕ) → AllByRecursion (λ b. b.marker ≡ None) h → effects_behind olds (numbered_from n h) ≡ map (λ p. record { earlier = []; last = p }) (numbered_from n h)
unfolding effects_behind
alone olds [] n k = refl
alone olds (b ∷ bs) n k = ap (λ m. completed_by m olds record { number = n; batch = b } ++ effects_behind (olds ++ record { number = n; batch = b } ∷ []) (numbered_from (suc n) bs)) k.0
    ∙ ap (λ l. record { earlier = []; last = record { number = n; batch = b } } ∷ l) (alone (olds ++ record { number = n; batch = b } ∷ []) bs (suc n) k.1)

singles_apart : (ps : List Numbered) → EachApart (map (λ p. record { earlier = []; last = p }) ps)
singles_apart [] = tt
singles_apart (p ∷ ps) = (each p ps, singles_apart ps)
  where
    none : (p q : Numbered) → AreApart record { earlier = []; last = p } record { earlier = []; last = q }
    none p q overlap (inl g) r a b = g refl
    none p q overlap (inr g) r a b = g refl

    each : (p : Numbered) (qs : List Numbered) → AllByRecursion (AreApart record { earlier = []; last = p }) (map (λ p. record { earlier = []; last = p }) qs)
    each p [] = tt
    each p (q ∷ qs) = (none p q, each p qs)

pub plain_apart : (h : List BatchSteps) → AllByRecursion (λ b. b.marker ≡ None) h → EachApart (effects h)
plain_apart h k = subst EachApart (sym (alone [] h 0 k)) (singles_apart (numbered_from 0 h))

pub plain_steps : (r : ℕ) (h : List BatchSteps) → AllByRecursion (λ b. b.marker ≡ None) h → steps_of r h ≡ flat_map (λ b. steps_on r b.steps) h
plain_steps r h k = ap (all_steps r) (alone [] h 0 k) ∙ go 0 h
  where
    go : (n : ℕ) (h : List BatchSteps) → flat_map (steps_in r) (map (λ p. record { earlier = []; last = p }) (numbered_from n h)) ≡ flat_map (λ b. steps_on r b.steps) h
    go n [] = refl
    go n (b ∷ bs) = ap (λ l. steps_on r b.steps ++ l) (go (suc n) bs)

pub named-steps : (r : ℕ) (h : List BatchSteps) → (is_named r h ≡ false) ↔ (steps_of r h ≡ [])
named-steps r h = (unnamed_steps r (effects h), no_steps_unnamed r (effects h))
