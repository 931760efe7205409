-- What steps leave of older entries.
use Rattle.raft_engine_laws.proofs.Common.{◌≡◌, ℕ, Bool, true, false, cond, not, ◌||◌, List, [], ◌∷◌, ◌++◌, refl, sym, ap, ◌∙◌, arith, ◌&&◌, nat_lt, nat_le, filter, AllByRecursion, filter-append, nat_tests, EntryIndex, speaks_of_index, Step, Run, Compact, Truncate, Clean, below}
use Rattle.raft_engine_laws.proofs.Common.{from, each_filter, is_index_spoken, unspoken}
use Rattle.raft_engine_laws.proofs.TestLemmas.{any-append, not_or, or_none, or_swapped}

-- two filters are one
pub filter-filter : {X : Type 0} (p q r : X → Bool) → ((x : X) → (q x && p x) ≡ r x) → (xs : List X) → filter p (filter q xs) ≡ filter r xs
filter-filter p q r same [] = refl
filter-filter p q r same (x ∷ xs) = go (q x) (r x) (same x) (filter-filter p q r same xs)
  where
    go : (a c : Bool) → (a && p x) ≡ c → filter p (filter q xs) ≡ filter r xs → filter p (cond a (x ∷ filter q xs) (filter q xs)) ≡ cond c (x ∷ filter r xs) (filter r xs)
    go true c e ih = cc
    go false c e ih = cc

pub same_filter : {X : Type 0} (p q : X → Bool) → ((x : X) → p x ≡ q x) → (xs : List X) → filter p xs ≡ filter q xs
same_filter p q same [] = refl
same_filter p q same (x ∷ xs) = rw (same x, same_filter p q same xs) refl

pub filter-all : {X : Type 0} (p : X → Bool) → ((x : X) → p x ≡ true) → (xs : List X) → filter p xs ≡ xs
filter-all p every [] = refl
filter-all p every (x ∷ xs) = rw (every x) (ap (λ l. x ∷ l) (filter-all p every xs))

pub filter-none : {X : Type 0} (p : X → Bool) → ((x : X) → p x ≡ false) → (xs : List X) → filter p xs ≡ []
filter-none p none [] = refl
filter-none p none (x ∷ xs) = rw (none x) (filter-none p none xs)

pub spoken-append : (ss tt : List Step) (i : ℕ) → is_index_spoken (ss ++ tt) i ≡ (is_index_spoken ss i || is_index_spoken tt i)
spoken-append ss tt i = any-append (speaks_of_index i) ss tt

pub unspoken-append : (ss : List Step) (a b : List EntryIndex) → unspoken ss (a ++ b) ≡ unspoken ss a ++ unspoken ss b
unfolding unspoken
unspoken-append ss a b = filter-append (λ e. not (is_index_spoken ss e.index)) a b

-- by steps one after another
pub unspoken-steps : (ss tt : List Step) (es : List EntryIndex) → unspoken tt (unspoken ss es) ≡ unspoken (ss ++ tt) es
unfolding unspoken
unspoken-steps ss tt es = filter-filter _ _ _ (λ e. not_or (is_index_spoken ss e.index) (is_index_spoken tt e.index) ∙ ap not (sym (spoken-append ss tt e.index))) es

pub unspoken-none : (es : List EntryIndex) → unspoken [] es ≡ es
unfolding unspoken
unspoken-none es = filter-all _ (λ e. refl) es

or_same : (a : Bool) → (not a && not a) ≡ not a
or_same true = refl
or_same false = refl

pub unspoken-twice : (ss : List Step) (es : List EntryIndex) → unspoken ss (unspoken ss es) ≡ unspoken ss es
unfolding unspoken
unspoken-twice ss es = filter-filter _ _ _ (λ e. or_same (is_index_spoken ss e.index)) es

-- ---- one step

turned : (i j : ℕ) → not (nat_le i j) ≡ nat_lt j i
turned i j = grind (arith, nat_tests)

turned_up : (i j : ℕ) → not (nat_lt j i) ≡ nat_le i j
turned_up i j = grind (arith, nat_tests)

pub unspoken-run : (e : EntryIndex) (run es : List EntryIndex) → unspoken (Run (e ∷ run) ∷ []) es ≡ below e.index es
unfolding unspoken below
unspoken-run e run es = same_filter _ _ (λ x. ap not (or_none (nat_le e.index x.index)) ∙ turned e.index x.index) es

pub unspoken-compact : (i : ℕ) (es : List EntryIndex) → unspoken (Compact i ∷ []) es ≡ from i es
unfolding unspoken from
unspoken-compact i es = same_filter _ _ (λ x. ap not (or_none (nat_lt x.index i)) ∙ turned_up i x.index) es

pub unspoken-truncate : (i : ℕ) (es : List EntryIndex) → unspoken (Truncate i ∷ []) es ≡ below i es
unfolding unspoken below
unspoken-truncate i es = same_filter _ _ (λ x. ap not (or_none (nat_le i x.index)) ∙ turned i x.index) es

pub unspoken-clean : (es : List EntryIndex) → unspoken (Clean ∷ []) es ≡ []
unfolding unspoken
unspoken-clean es = filter-none _ (λ x. refl) es

swapped : (ss tt : List Step) (es : List EntryIndex) → unspoken (ss ++ tt) es ≡ unspoken (tt ++ ss) es
unfolding unspoken
swapped ss tt es = same_filter _ _ (λ e. ap not (spoken-append ss tt e.index) ∙ or_swapped (is_index_spoken ss e.index) (is_index_spoken tt e.index) ∙ ap not (sym (spoken-append tt ss e.index))) es

-- the order of steps is free
pub unspoken-swap : (ss tt : List Step) (es : List EntryIndex) → unspoken tt (unspoken ss es) ≡ unspoken ss (unspoken tt es)
unspoken-swap ss tt es = unspoken-steps ss tt es ∙ swapped ss tt es ∙ sym (unspoken-steps tt ss es)

pub unspoken-nil : (ss : List Step) → unspoken ss [] ≡ []
unfolding unspoken
unspoken-nil ss = refl

-- steps that speak of the same leave the same
pub unspoken_same : (a b : List Step) (es : List EntryIndex) → ((i : ℕ) → is_index_spoken a i ≡ is_index_spoken b i) → unspoken a es ≡ unspoken b es
unfolding unspoken
unspoken_same a b es h = same_filter _ _ (λ e. ap not (h e.index)) es

-- what all entries are, those that are left are
pub all_left : (P : EntryIndex → Type 0) (ss : List Step) (es : List EntryIndex) → AllByRecursion P es → AllByRecursion P (unspoken ss es)
unfolding unspoken
all_left P ss es h = each_filter P (λ e. not (is_index_spoken ss e.index)) es h
