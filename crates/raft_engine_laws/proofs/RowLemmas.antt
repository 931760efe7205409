-- A group whose batches stand in a row is one effect, apart from all before it.
use Rattle.raft_engine_laws.proofs.Common.{◌≡◌, ℕ, suc, ◌+◌, ◌<◌, true, List, [], ◌∷◌, ◌++◌, length, refl, sym, ap, subst, ◌∙◌, append-nil, append_assoc, arith, eq-eqb, Begin, Middle, End, BatchSteps, batch_with_marker, Numbered, numbered_from, markers_of, open_stretch, Effect}
use Rattle.raft_engine_laws.proofs.Common.{completed_as, effects, steps_by, steps_of, AreApart, EachApart, RegionStep, each_weaker, numbered_from-append, all_steps-append, all_steps-one, markers_of-append, open_stretch-append, all_steps, are_middles}
use Rattle.raft_engine_laws.proofs.ApartLemmas.{last_low, apart_more, effects_more, effects_held}

abbrev pub middles : ℕ → List (List RegionStep × ℕ) → List BatchSteps
middles g [] = []
middles g (x ∷ xs) = batch_with_marker x.0 g Middle x.1 ∷ middles g xs

middles_marked : (g n : ℕ) (xs : List (List RegionStep × ℕ)) → markers_of g (numbered_from n (middles g xs)) ≡ numbered_from n (middles g xs)
unfolding markers_of
middles_marked g n [] = refl
middles_marked g n (x ∷ xs) = rw (eq-eqb g g refl) (ap (λ l. record { number = n; batch = batch_with_marker x.0 g Middle x.1 } ∷ l) (middles_marked g (suc n) xs))

middles_are : (g n : ℕ) (xs : List (List RegionStep × ℕ)) → are_middles (numbered_from n (middles g xs)) ≡ true
middles_are g n [] = refl
middles_are g n (x ∷ xs) = middles_are g (suc n) xs

middles_held : (g : ℕ) (h : List BatchSteps) (xs : List (List RegionStep × ℕ)) → effects (h ++ middles g xs) ≡ effects h
middles_held g h [] = ap effects (append-nil h)
middles_held g h (x ∷ xs) = ap effects (sym (append_assoc h (batch_with_marker x.0 g Middle x.1 ∷ []) (middles g xs)))
    ∙ middles_held g (h ++ batch_with_marker x.0 g Middle x.1 ∷ []) xs ∙ effects_held h (batch_with_marker x.0 g Middle x.1) (λ e. absurd cc)

module _ (g : ℕ) (h : List BatchSteps) (is : List RegionStep) (seq : ℕ) (xs : List (List RegionStep × ℕ)) (js : List RegionStep) (last : ℕ) where
  abbrev pub begun : List BatchSteps
  begun = batch_with_marker is g Begin seq ∷ middles g xs

  abbrev pub closing : Numbered
  closing = record { number = length (h ++ begun); batch = batch_with_marker js g End last }

  abbrev pub group : Effect
  group = record { earlier = numbered_from (length h) begun; last = closing }

  stretch_is : (n : ℕ) → open_stretch (numbered_from n begun) ≡ numbered_from n begun
  unfolding open_stretch
  stretch_is n = rw (middles_are g (suc n) xs) refl

  marked : (n : ℕ) → markers_of g (numbered_from n begun) ≡ numbered_from n begun
  unfolding markers_of
  marked n = rw (eq-eqb g g refl) (ap (λ l. record { number = n; batch = batch_with_marker is g Begin seq } ∷ l) (middles_marked g (suc n) xs))

  zero_plus : 0 + length h ≡ length h
  zero_plus = omega arith

  open_is : open_stretch (markers_of g (numbered_from 0 (h ++ begun))) ≡ numbered_from (length h) begun
  open_is = ap (λ l. open_stretch (markers_of g l))
      (numbered_from-append 0 h begun ∙ ap (λ (n : ℕ). numbered_from 0 h ++ numbered_from n begun) zero_plus)
      ∙ ap open_stretch (markers_of-append g (numbered_from 0 h) (numbered_from (length h) begun)
      ∙ ap (λ l. markers_of g (numbered_from 0 h) ++ l) (marked (length h)))
      ∙ open_stretch-append (markers_of g (numbered_from 0 h)) (numbered_from (length h) begun) ∙ stretch_is (length h)

  begun_held : effects (h ++ begun) ≡ effects h
  begun_held = ap effects (sym (append_assoc h (batch_with_marker is g Begin seq ∷ []) (middles g xs))) ∙ middles_held g (h ++ batch_with_marker is g Begin seq ∷ []) xs ∙ effects_held h (batch_with_marker is g Begin seq) (λ e. absurd cc)

  -- the group is one effect behind all others
  pub row_effects : effects ((h ++ begun) ++ batch_with_marker js g End last ∷ []) ≡ effects h ++ group ∷ []
  row_effects = effects_more (h ++ begun) (batch_with_marker js g End last)
      ∙ ap (λ l. l ++ completed_as End (open_stretch (markers_of g (numbered_from 0 (h ++ begun)))) closing) begun_held
      ∙ ap (λ l. effects h ++ completed_as End l closing) open_is

  -- apart from all of them
  pub row_apart : EachApart (effects h) → EachApart (effects ((h ++ begun) ++ batch_with_marker js g End last ∷ []))
  row_apart apart = subst EachApart (sym row_effects) (apart_more (effects h) group apart
      (each_weaker (λ (e : Effect). e.last.number < 0 + length h) (λ (e : Effect). AreApart e group) (λ e low over. absurd (omega (arith, low, over.1))) (effects h) (last_low [] 0 h)))

  -- and its steps come behind theirs
  pub row_steps : (r : ℕ) → steps_of r ((h ++ begun) ++ batch_with_marker js g End last ∷ []) ≡ steps_of r h ++ steps_by r (numbered_from (length h) begun) closing
  row_steps r = ap (all_steps r) row_effects ∙ all_steps-append r (effects h) (group ∷ []) ∙ ap (λ l. steps_of r h ++ l) (all_steps-one r group)
