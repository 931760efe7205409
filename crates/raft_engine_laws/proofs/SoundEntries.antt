-- Entries beside kept ones are consecutive as these are, and rewritten places stand in front.
use Rattle.raft_engine_laws.proofs.Common.{◌≡◌, ◌⊎◌, ℕ, suc, ◌<◌, ◌-◌, ◌^◌, Bool, true, false, cond, List, [], ◌∷◌, ◌++◌, inl, inr, refl, sym, ap, subst, ◌∙◌, append-nil, AllByRecursion, false≢true, EntryIndex, LogQueue, Append, Rewrite, RisesFrom, IsRun, IsConsecutive}
use Rattle.raft_engine_laws.proofs.Common.{placed_in, is_placed_in, RewrittenInFront, placed_each, placed_in_other, placed_in-append, each-append, each_weaker, AreMoved}
use Rattle.raft_engine_laws.proofs.EachLemmas.{Each}
use Rattle.raft_engine_laws.proofs.MovedLemmas.{moved_each, run_seen}

-- ---- consecutive

module _ (content : EntryIndex → List ℕ) where
  rises_kept : (s : ℕ) (ks es : List EntryIndex) → AreMoved content ks es → RisesFrom s es → RisesFrom s ks
  rises_kept s [] es h r = tt
  rises_kept s (k ∷ ks) [] h r = absurd h
  rises_kept s (k ∷ ks) (e ∷ es) h r = (h.0.0.0 ∙ r.0, rises_kept (suc s) ks es h.1 r.1)

  run_kept : (ks es : List EntryIndex) → AreMoved content ks es → IsRun es → IsRun ks
  run_kept [] es h r = tt
  run_kept (k ∷ ks) [] h r = absurd h
  run_kept (k ∷ ks) (e ∷ es) h r = subst (λ n. RisesFrom (suc n) ks) (sym h.0.0.0) (rises_kept (suc e.index) ks es h.1 r)

  seen_each : (X : ℕ → Type 0) (ks es : List EntryIndex) → AreMoved content ks es → Each X ks → Each X es
  seen_each X [] [] h all = tt
  seen_each X [] (e ∷ es) h all = absurd h
  seen_each X (k ∷ ks) [] h all = absurd h
  seen_each X (k ∷ ks) (e ∷ es) h all = (subst X h.0.0.0 all.0, seen_each X ks es h.1 all.1)

  pub consecutive_seen : (ks es : List EntryIndex) → AreMoved content ks es → IsConsecutive ks → IsConsecutive es
  consecutive_seen ks es h c = record { run = run_seen content ks es h c.run; bounded = seen_each (λ i. i < 2 ^ 64 - 1) ks es h c.bounded }

  pub consecutive_kept : (ks es : List EntryIndex) → AreMoved content ks es → IsConsecutive es → IsConsecutive ks
  consecutive_kept ks es h c = record { run = run_kept ks es h c.run; bounded = moved_each content (λ i. i < 2 ^ 64 - 1) ks es h c.bounded }

-- ---- rewritten places in front

pub placed_twice : (q : LogQueue) (l : List EntryIndex) → placed_in q (placed_in q l) ≡ placed_in q l
unfolding placed_in
placed_twice q [] = refl
placed_twice q (e ∷ l) = go (is_placed_in q e) refl (placed_twice q l)
  where
    go : (b : Bool) → is_placed_in q e ≡ b → placed_in q (placed_in q l) ≡ placed_in q l → placed_in q (cond b (e ∷ placed_in q l) (placed_in q l)) ≡ cond b (e ∷ placed_in q l) (placed_in q l)
    go true k h = ap (λ b. cond b (e ∷ placed_in q (placed_in q l)) (placed_in q (placed_in q l))) k ∙ ap (λ x. e ∷ x) h
    go false k h = h

-- rewritten entries, and appended ones behind
pub in_two : (a b : List EntryIndex) → placed_in Rewrite a ≡ a → placed_in Append b ≡ b → RewrittenInFront (a ++ b)
in_two a b h k = sym (ap (λ l. l ++ placed_in Append (a ++ b)) front ∙ ap (λ l. a ++ l) back)
  where
    front : placed_in Rewrite (a ++ b) ≡ a
    front = placed_in-append Rewrite a b ∙ ap (λ l. l ++ placed_in Rewrite b) h ∙ ap (λ l. a ++ l) (ap (placed_in Rewrite) (sym k) ∙ placed_in_other Append Rewrite refl b) ∙ append-nil a

    back : placed_in Append (a ++ b) ≡ b
    back = placed_in-append Append a b ∙ ap (λ l. l ++ placed_in Append b) (ap (placed_in Append) (sym h) ∙ placed_in_other Rewrite Append refl a) ∙ k

-- an entry has its place in a queue
abbrev pub IsPlaced : EntryIndex → Type 0
IsPlaced e = (is_placed_in Rewrite e ≡ true) ⊎ (is_placed_in Append e ≡ true)

pub each_in_queue : (es : List EntryIndex) → RewrittenInFront es → AllByRecursion IsPlaced es
each_in_queue es h = subst (AllByRecursion IsPlaced) (sym h)
    (each-append IsPlaced (placed_in Rewrite es) (placed_in Append es)
    (each_weaker (λ (e : EntryIndex). is_placed_in Rewrite e ≡ true) IsPlaced (λ e k. inl k) (placed_in Rewrite es) (placed_each Rewrite (placed_in Rewrite es) (placed_twice Rewrite es)))
    (each_weaker (λ (e : EntryIndex). is_placed_in Append e ≡ true) IsPlaced (λ e k. inr k) (placed_in Append es) (placed_each Append (placed_in Append es) (placed_twice Append es))))

-- where none is rewritten, all are appended
pub all_appended : (es : List EntryIndex) → AllByRecursion IsPlaced es → placed_in Rewrite es ≡ [] → placed_in Append es ≡ es
unfolding placed_in
all_appended [] h none = refl
all_appended (e ∷ es) h none = go (is_placed_in Rewrite e) refl none (all_appended es h.1)
  where
    go : (b : Bool) → is_placed_in Rewrite e ≡ b → cond b (e ∷ placed_in Rewrite es) (placed_in Rewrite es) ≡ [] → (placed_in Rewrite es ≡ [] → placed_in Append es ≡ es) → placed_in Append (e ∷ es) ≡ e ∷ es
    go true k none rest = absurd cc
    go false k none rest = elim h.0 [
      | inl moved ↦ absurd (false≢true (sym k ∙ moved))
      | inr own ↦ ap (λ b. cond b (e ∷ placed_in Append es) (placed_in Append es)) own ∙ ap (λ l. e ∷ l) (rest none)
    ]
