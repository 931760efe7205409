-- What holds of every step that batches have on a region holds of the steps of the history on it.
use Rattle.raft_history.proofs.Common.{cond_both, effects, ◌≡◌, ℕ, suc, cond, List, [], ◌∷◌, ◌++◌, sym, map, filter, AllByRecursion, eqb-true, Step, AtomicGroup, BatchSteps, Numbered, completed_by, numbered_from, steps_of, whole_steps}
use Rattle.raft_history.proofs.Common.{RegionStep, names, steps_on}
use Rattle.raft_history.proofs.Words.{is_on, region_steps_of, steps_in}
use Rattle.raft_history.proofs.EffectLemmas.{by_completed, each-append, each_effect, each_flat, open_among}

module _ (Q : Step → Type 0) (group : (a b : ℕ) → Q (AtomicGroup a b)) (r : ℕ) where
  -- a step, if it is on the region, is such a one
  abbrev pub IsOwn : RegionStep → Type 0
  IsOwn s = s.region ≡ r → Q s.step

  abbrev pub AreOwn : List RegionStep → Type 0
  AreOwn is = AllByRecursion IsOwn is

  abbrev IsOwnBatch : Numbered → Type 0
  IsOwnBatch p = AreOwn p.batch.steps

  pub own_steps : (is : List RegionStep) → AreOwn is → AllByRecursion Q (steps_on r is)
  unfolding steps_on
  own_steps [] h = tt
  own_steps (i ∷ is) h =
      let rest : AllByRecursion Q (map (λ i. i.step) (filter (is_on r) is)) = own_steps is h.1 in
      cond_both (is_on r i) (i ∷ filter (is_on r) is) (filter (is_on r) is) (λ is. AllByRecursion Q (map (λ i. i.step) is)) (λ e. (h.0 (sym (eqb-true r i.region e)), rest)) (λ e. rest)

  whole : (is : List RegionStep) (first_seq last_seq : ℕ) → AreOwn is → AllByRecursion Q (whole_steps r is first_seq last_seq)
  unfolding whole_steps
  whole is first_seq last_seq h = each-append Q (steps_on r is) (cond (names r is) (AtomicGroup first_seq last_seq ∷ []) []) (own_steps is h)
      (cond_both (names r is) (AtomicGroup first_seq last_seq ∷ []) [] (AllByRecursion Q) (λ e. (group first_seq last_seq, tt)) (λ e. tt))

  completed : (olds : List Numbered) (p : Numbered) → AllByRecursion IsOwnBatch olds → IsOwnBatch p → AllByRecursion (λ e. AllByRecursion Q (steps_in r e)) (completed_by p.batch.marker olds p)
  completed olds p h k = by_completed (AllByRecursion (λ e. AllByRecursion Q (steps_in r e))) olds p tt (λ e. (own_steps p.batch.steps k, tt))
      (λ g q qs m e. (
        whole (region_steps_of (q ∷ qs) ++ p.batch.steps) q.batch.seq p.batch.seq
            (each-append IsOwn (region_steps_of (q ∷ qs)) p.batch.steps (each_flat IsOwn (λ (p : Numbered). p.batch.steps) (q ∷ qs) (open_among IsOwnBatch g olds q qs h e)) k),
        tt,
      ))

  numbered : (n : ℕ) (bs : List BatchSteps) → AllByRecursion (λ (b : BatchSteps). AreOwn b.steps) bs → AllByRecursion IsOwnBatch (numbered_from n bs)
  numbered n [] h = tt
  numbered n (b ∷ bs) h = (h.0, numbered (suc n) bs h.1)

  pub each_step_of : (bs : List BatchSteps) → AllByRecursion (λ (b : BatchSteps). AreOwn b.steps) bs → AllByRecursion Q (steps_of r bs)
  each_step_of bs h = each_flat Q (steps_in r) (effects bs) (each_effect (λ e. AllByRecursion Q (steps_in r e)) IsOwnBatch completed [] (numbered_from 0 bs) tt (numbered 0 bs h))
