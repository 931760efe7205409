-- Entries that steps speak of, one by one.
use Rattle.raft_engine_laws.proofs.Common.{◌≡◌, ℕ, suc, ◌<◌, ◌≤◌, max, Bool, true, false, cond, not, List, [], ◌∷◌, ◌++◌, length, refl, ap, arith, AllByRecursion, EntryIndex, RisesFrom, end_of, Step, is_index_spoken, unspoken}

-- each entry's index is such a one
abbrev pub Each : (ℕ → Type 0) → List EntryIndex → Type 0
Each X es = AllByRecursion (λ (e : EntryIndex). X e.index) es

pub each_left : (ss : List Step) (es : List EntryIndex) → Each (λ i. is_index_spoken ss i ≡ false) (unspoken ss es)
unfolding unspoken
each_left ss [] = tt
each_left ss (e ∷ es) = go (is_index_spoken ss e.index) refl (each_left ss es)
  where
    go : (b : Bool) → is_index_spoken ss e.index ≡ b → Each (λ i. is_index_spoken ss i ≡ false) (unspoken ss es) → Each (λ i. is_index_spoken ss i ≡ false) (cond (not b) (e ∷ unspoken ss es) (unspoken ss es))
    go true t rest = rest
    go false t rest = (t, rest)

pub left_each : (ss : List Step) (es : List EntryIndex) → Each (λ i. is_index_spoken ss i ≡ false) es → unspoken ss es ≡ es
unfolding unspoken
left_each ss [] h = refl
left_each ss (e ∷ es) h = rw h.0 (ap (λ l. e ∷ l) (left_each ss es h.1))

pub each_gone : (ss : List Step) (es : List EntryIndex) → unspoken ss es ≡ [] → Each (λ i. is_index_spoken ss i ≡ true) es
unfolding unspoken
each_gone ss [] h = tt
each_gone ss (e ∷ es) h = go (is_index_spoken ss e.index) refl h (each_gone ss es)
  where
    go : (b : Bool) → is_index_spoken ss e.index ≡ b → cond (not b) (e ∷ unspoken ss es) (unspoken ss es) ≡ [] → (unspoken ss es ≡ [] → Each (λ i. is_index_spoken ss i ≡ true) es) → Each (λ i. is_index_spoken ss i ≡ true) (e ∷ es)
    go true t h rest = (t, rest h)
    go false t h rest = absurd cc

pub gone_each : (ss : List Step) (es : List EntryIndex) → Each (λ i. is_index_spoken ss i ≡ true) es → unspoken ss es ≡ []
unfolding unspoken
gone_each ss [] h = refl
gone_each ss (e ∷ es) h = rw h.0 (gone_each ss es h.1)

-- what is left ends no later
pub end_of-left : (ss : List Step) (es : List EntryIndex) → end_of (unspoken ss es) ≤ end_of es
unfolding unspoken end_of
end_of-left ss [] = omega arith
end_of-left ss (e ∷ es) = go (is_index_spoken ss e.index) (end_of-left ss es)
  where
    go : (b : Bool) → end_of (unspoken ss es) ≤ end_of es → end_of (cond (not b) (e ∷ unspoken ss es) (unspoken ss es)) ≤ max (suc e.index) (end_of es)
    go true h = omega (arith, h)
    go false h = omega (arith, h)

-- entries in front of a run's entry end where it stands
pub ends_at : (s : ℕ) (a : List EntryIndex) (f : EntryIndex) (own : List EntryIndex) → RisesFrom s (a ++ f ∷ own) → 0 < length a → end_of a ≡ f.index
unfolding end_of
ends_at s [] f own h some = absurd (omega (arith, some))
ends_at s (x ∷ []) f own h some = let p : x.index ≡ s = h.0 in let q : f.index ≡ suc s = h.1.0 in omega (arith, p, q)
ends_at s (x ∷ y ∷ a) f own h some =
    let k : end_of (y ∷ a) ≡ f.index = ends_at (suc s) (y ∷ a) f own h.1 (omega arith) in
    let p : x.index ≡ s = h.0 in let q : y.index ≡ suc s = h.1.0 in
    omega (arith, k, p, q)

-- entries whose indexes are all below a number end there at most
pub ends_under : (c : ℕ) (es : List EntryIndex) → Each (λ i. i < c) es → end_of es ≤ c
unfolding end_of
ends_under c [] h = omega arith
ends_under c (e ∷ es) h = let k = ends_under c es h.1 in let l : e.index < c = h.0 in omega (arith, k, l)

pub index_weaker : (X Y : ℕ → Type 0) → ((i : ℕ) → X i → Y i) → (es : List EntryIndex) → Each X es → Each Y es
index_weaker X Y law [] h = tt
index_weaker X Y law (e ∷ es) h = (law e.index h.0, index_weaker X Y law es h.1)

pub first_end : (e : EntryIndex) (es : List EntryIndex) → e.index < end_of (e ∷ es)
unfolding end_of
first_end e es = omega arith
