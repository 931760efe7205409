-- Kept entries beside those that are read.
use Rattle.raft_engine_laws.proofs.Common.{◌≡◌, ℕ, suc, max, Bool, true, false, cond, not, List, [], ◌∷◌, ◌++◌, inl, refl, sym, ap, subst, ◌∙◌, nat_lt, EntryIndex, RisesFrom, IsRun, end_of, leaves_hole, Step, AreMoved, is_index_spoken, unspoken}
use Rattle.raft_engine_laws.proofs.EachLemmas.{Each}

module _ (content : EntryIndex → List ℕ) where
  pub moved_self : (es : List EntryIndex) → AreMoved content es es
  moved_self [] = tt
  moved_self (e ∷ es) = (((refl, inl refl), refl), moved_self es)

  pub moved-append : (ks es ls fs : List EntryIndex) → AreMoved content ks es → AreMoved content ls fs → AreMoved content (ks ++ ls) (es ++ fs)
  moved-append [] [] ls fs h k = k
  moved-append [] (e ∷ es) ls fs h k = absurd h
  moved-append (l ∷ ks) [] ls fs h k = absurd h
  moved-append (l ∷ ks) (e ∷ es) ls fs h k = (h.0, moved-append ks es ls fs h.1 k)

  -- the kept entries in two parts, as those that are read
  pub moved_parts : (ks es fs : List EntryIndex) → AreMoved content ks (es ++ fs) → (a : List EntryIndex) × (b : List EntryIndex) × (ks ≡ a ++ b) × AreMoved content a es × AreMoved content b fs
  moved_parts ks [] fs h = ([], ks, refl, tt, h)
  moved_parts [] (e ∷ es) fs h = absurd h
  moved_parts (k ∷ ks) (e ∷ es) fs h =
      let p : (a : List EntryIndex) × (b : List EntryIndex) × (ks ≡ a ++ b) × AreMoved content a es × AreMoved content b fs = moved_parts ks es fs h.1 in
      (k ∷ p.0, p.1, ap (λ l. k ∷ l) p.2, (h.0, p.3), p.4)

  pub moved_each : (X : ℕ → Type 0) (ks es : List EntryIndex) → AreMoved content ks es → Each X es → Each X ks
  moved_each X [] [] h all = tt
  moved_each X [] (e ∷ es) h all = absurd h
  moved_each X (k ∷ ks) [] h all = absurd h
  moved_each X (k ∷ ks) (e ∷ es) h all = (subst X (sym h.0.0.0) all.0, moved_each X ks es h.1 all.1)

  pub moved_end : (ks es : List EntryIndex) → AreMoved content ks es → end_of ks ≡ end_of es
  unfolding end_of
  moved_end [] [] h = refl
  moved_end [] (e ∷ es) h = absurd h
  moved_end (k ∷ ks) [] h = absurd h
  moved_end (k ∷ ks) (e ∷ es) h = ap (λ (n : ℕ). max (suc n) (end_of ks)) h.0.0.0 ∙ ap (max (suc e.index)) (moved_end ks es h.1)

  pub moved_none : (ks : List EntryIndex) → AreMoved content ks [] → ks ≡ []
  moved_none [] h = refl
  moved_none (k ∷ ks) h = absurd h

  -- what steps leave of both
  pub moved_left : (ss : List Step) (ks es : List EntryIndex) → AreMoved content ks es → AreMoved content (unspoken ss ks) (unspoken ss es)
  unfolding unspoken
  moved_left ss [] [] h = tt
  moved_left ss [] (e ∷ es) h = absurd h
  moved_left ss (k ∷ ks) [] h = absurd h
  moved_left ss (k ∷ ks) (e ∷ es) h = subst (λ (b : Bool). AreMoved content (cond (not b) (k ∷ unspoken ss ks) (unspoken ss ks))
      (unspoken ss (e ∷ es))) (sym (ap (is_index_spoken ss) h.0.0.0)) (go (is_index_spoken ss e.index) (moved_left ss ks es h.1))
    where
      go : (b : Bool) → AreMoved content (unspoken ss ks) (unspoken ss es) → AreMoved content (cond (not b) (k ∷ unspoken ss ks) (unspoken ss ks)) (cond (not b) (e ∷ unspoken ss es) (unspoken ss es))
      go true rest = rest
      go false rest = (h.0, rest)

  pub moved_hole : (ks es : List EntryIndex) (i : ℕ) → AreMoved content ks es → leaves_hole ks i ≡ leaves_hole es i
  moved_hole [] [] i h = refl
  moved_hole [] (e ∷ es) i h = absurd h
  moved_hole (k ∷ ks) [] i h = absurd h
  moved_hole (k ∷ ks) (e ∷ es) i h = ap (λ n. nat_lt n i) (moved_end (k ∷ ks) (e ∷ es) h)

  rises_seen : (s : ℕ) (ks es : List EntryIndex) → AreMoved content ks es → RisesFrom s ks → RisesFrom s es
  rises_seen s [] [] h r = tt
  rises_seen s [] (e ∷ es) h r = absurd h
  rises_seen s (k ∷ ks) [] h r = tt
  rises_seen s (k ∷ ks) (e ∷ es) h r = (sym h.0.0.0 ∙ r.0, rises_seen (suc s) ks es h.1 r.1)

  pub run_seen : (ks es : List EntryIndex) → AreMoved content ks es → IsRun ks → IsRun es
  run_seen [] [] h r = tt
  run_seen [] (e ∷ es) h r = absurd h
  run_seen (k ∷ ks) [] h r = tt
  run_seen (k ∷ ks) (e ∷ es) h r = subst (λ n. RisesFrom (suc n) es) h.0.0.0 (rises_seen (suc k.index) ks es h.1 r)
