-- Runs and consecutive entries, one by one.
use Rattle.std.proofs.Common.{◌≡◌, ℕ, suc, ◌+◌, ◌-◌, ◌<◌, ◌^◌, ◌↔◌, List, [], ◌∷◌, length, get_or, None, refl, sym, subst, arith}
use Rattle.std.specs.List.{AllByRecursion, slice_get}
use Rattle.raft_base.specs.declared.entry_index.EntryIndex.{EntryIndex}
use Rattle.raft_base.specs.Runs.{RisesFrom, IsRun, end_of, IsConsecutive}

-- a run and its start
pub record Started (es : List EntryIndex) : Type 0 where
  pub start : ℕ
  pub rising : RisesFrom start es

pub started : (es : List EntryIndex) → IsRun es → Started es
started [] run = record { start = 0; rising = tt }
started (e ∷ es) run = record { start = e.index; rising = (refl, run) }

pub run_of : (start : ℕ) (es : List EntryIndex) → RisesFrom start es → IsRun es
run_of start [] h = tt
run_of start (e ∷ es) h = subst (λ i. RisesFrom (suc i) es) (sym h.0) h.1

pub end_bounded : (es : List EntryIndex) → AllByRecursion (λ (e : EntryIndex). e.index < 2 ^ 64 - 1) es → end_of es < 2 ^ 64
unfolding end_of
end_bounded [] h = omega arith
end_bounded (e ∷ es) h = omega (arith, h.0, end_bounded es h.1)

pub bounded_of : (es : List EntryIndex) → end_of es < 2 ^ 64 → AllByRecursion (λ (e : EntryIndex). e.index < 2 ^ 64 - 1) es
unfolding end_of
bounded_of [] lt = tt
bounded_of (e ∷ es) lt = (omega (arith, lt), bounded_of es (omega (arith, lt)))

-- the indexes rise by one from this one, and none is 2^64 - 1
abbrev pub IsConsecutiveFrom : ℕ → List EntryIndex → Type 0
IsConsecutiveFrom index [] = Unit {0}
IsConsecutiveFrom index (e ∷ es) = (e.index ≡ index) × (index < 2 ^ 64 - 1) × IsConsecutiveFrom (index + 1) es

next_is : (i : ℕ) → i + 1 ≡ suc i
next_is i = omega arith

rising : (i : ℕ) (es : List EntryIndex) → IsConsecutiveFrom i es → RisesFrom i es
rising i [] h = tt
rising i (e ∷ es) h = (h.0, rising (suc i) es (subst (λ j. IsConsecutiveFrom j es) (next_is i) h.2))

bounded : (i : ℕ) (es : List EntryIndex) → IsConsecutiveFrom i es → AllByRecursion (λ (e : EntryIndex). e.index < 2 ^ 64 - 1) es
bounded i [] h = tt
bounded i (e ∷ es) h = (omega (arith, h.0, h.1), bounded (i + 1) es h.2)

both : (i : ℕ) (es : List EntryIndex) → RisesFrom i es → AllByRecursion (λ (e : EntryIndex). e.index < 2 ^ 64 - 1) es → IsConsecutiveFrom i es
both i [] h lt = tt
both i (e ∷ es) h lt =
    let index : e.index ≡ i = h.0 in
    (index, omega (arith, lt.0), subst (λ j. IsConsecutiveFrom j es) (sym (next_is i)) (both (suc i) es h.1 lt.1))

pub from_start : (es : List EntryIndex) (h : IsConsecutive es) → IsConsecutiveFrom (started es h.run).start es
from_start es h = both (started es h.run).start es (started es h.run).rising h.bounded

pub from_first : (e : EntryIndex) (es : List EntryIndex) → IsConsecutive (e ∷ es) → IsConsecutiveFrom e.index (e ∷ es)
from_first e es h = both e.index (e ∷ es) (refl, h.run) h.bounded

pub consecutive_from : (i : ℕ) (es : List EntryIndex) → IsConsecutiveFrom i es → IsConsecutive es
consecutive_from i es h = record { run = run_of i es (rising i es h); bounded = bounded i es h }

pub no_entries : (es : List EntryIndex) → None ≡ slice_get es 0 → IsConsecutive es
no_entries [] h = consecutive_from 0 [] tt
no_entries (x ∷ es) h = absurd cc

pub with_first : (es : List EntryIndex) (e : EntryIndex) → 0 < length es → e ≡ get_or es 0 e → IsConsecutive es ↔ IsConsecutiveFrom e.index es
with_first [] e l h = absurd (omega arith)
with_first (x ∷ es) e l h =
    subst (λ (y : EntryIndex). IsConsecutive (x ∷ es) ↔ IsConsecutiveFrom y.index (x ∷ es)) (sym h) (from_first x es, consecutive_from x.index (x ∷ es))
