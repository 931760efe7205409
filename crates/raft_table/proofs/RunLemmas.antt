-- Runs: cutting one at an index is taking or dropping its front, and what is looked up in it.
use Rattle.raft_table.proofs.Common.{◌≡◌, ℕ, zero, suc, ◌+◌, ◌<◌, ◌≤◌, max, Bool, true, false, ltb, leb, List, [], ◌∷◌, ◌++◌, length, take, drop, filter, Some, refl, sym, ap, arith, filter-append, nat_lt, lt-ltb, nat_tests, LogQueue}
use Rattle.raft_table.proofs.Common.{EntryIndex, RisesFrom, IsRun, end_of, run_of, start_of, below, from, placed_in, is_placed_in, misses, leaves_hole, eqb, get_or, None, ◌∙◌, entry_at, cond, ◌&&◌}
use Rattle.std.proofs.Math.Bool.{and_comm}

pub filter-filter : {X : Type 0} (p q r : X → Bool) → ((x : X) → (q x && p x) ≡ r x) → (xs : List X) → filter p (filter q xs) ≡ filter r xs
filter-filter p q r same [] = refl
filter-filter p q r same (x ∷ xs) = go (q x) (r x) (same x) (filter-filter p q r same xs)
  where
    go : (a c : Bool) → (a && p x) ≡ c → filter p (filter q xs) ≡ filter r xs → filter p (cond a (x ∷ filter q xs) (filter q xs)) ≡ cond c (x ∷ filter r xs) (filter r xs)
    go true c e ih = cc
    go false c e ih = cc

pub filter_comm : {X : Type 0} (p q : X → Bool) (xs : List X) → filter p (filter q xs) ≡ filter q (filter p xs)
filter_comm p q xs =
    filter-filter p q (λ x. q x && p x) (λ x. refl) xs ∙ sym (filter-filter q p (λ x. q x && p x) (λ x. and_comm (p x) (q x)) xs)

-- the test for a hole, told by the end of the entries
pub hole_end : (es : List EntryIndex) (start : ℕ) → leaves_hole es start ≡ misses (Some start) (end_of es)
unfolding end_of
hole_end [] start = refl
hole_end (e ∷ es) start = sym (ap (λ b. b && nat_lt (max (suc e.index) (end_of es)) start) (lt-ltb 0 (max (suc e.index) (end_of es)) (omega arith)))

pub below-append : (i : ℕ) (a b : List EntryIndex) → below i (a ++ b) ≡ below i a ++ below i b
unfolding below
below-append i a b = filter-append (λ e. ltb e.index i) a b

pub from-append : (i : ℕ) (a b : List EntryIndex) → from i (a ++ b) ≡ from i a ++ from i b
unfolding from
from-append i a b = filter-append (λ e. leb i e.index) a b

pub placed_in-append : (q : LogQueue) (a b : List EntryIndex) → placed_in q (a ++ b) ≡ placed_in q a ++ placed_in q b
unfolding placed_in
placed_in-append q a b = filter-append (is_placed_in q) a b

pub below-placed_in : (i : ℕ) (q : LogQueue) (es : List EntryIndex) → below i (placed_in q es) ≡ placed_in q (below i es)
unfolding below placed_in
below-placed_in i q es = filter_comm (λ e. ltb e.index i) (is_placed_in q) es

pub from-placed_in : (i : ℕ) (q : LogQueue) (es : List EntryIndex) → from i (placed_in q es) ≡ placed_in q (from i es)
unfolding from placed_in
from-placed_in i q es = filter_comm (λ e. leb i e.index) (is_placed_in q) es

-- nothing of a run stands below its start
pub below_start : (i s : ℕ) (es : List EntryIndex) → RisesFrom s es → i ≤ s → below i es ≡ []
unfolding below
below_start i s [] h le = refl
below_start i s (e ∷ es) h le =
    let t : ltb e.index i ≡ false = rw h.0 (grind (arith, nat_tests)) in
    rw t (below_start i (suc s) es h.1 (omega arith))

pub from_start : (i s : ℕ) (es : List EntryIndex) → RisesFrom s es → i ≤ s → from i es ≡ es
unfolding from
from_start i s [] h le = refl
from_start i s (e ∷ es) h le =
    let t : leb i e.index ≡ true = rw h.0 (grind (arith, nat_tests)) in
    rw t (ap (λ ys. e ∷ ys) (from_start i (suc s) es h.1 (omega arith)))

-- the entries below an index are the front of that many, and those from it on are what is behind
pub below_take : (i n s : ℕ) (es : List EntryIndex) → i ≡ s + n → RisesFrom s es → below i es ≡ take n es
unfolding below
below_take i zero s es k h = below_start i s es h (omega arith)
below_take i (suc n) s [] k h = refl
below_take i (suc n) s (e ∷ es) k h =
    let t : ltb e.index i ≡ true = rw h.0 (grind (arith, nat_tests)) in
    rw t (ap (λ ys. e ∷ ys) (below_take i n (suc s) es (omega arith) h.1))

pub from_drop : (i n s : ℕ) (es : List EntryIndex) → i ≡ s + n → RisesFrom s es → from i es ≡ drop n es
unfolding from
from_drop i zero s es k h = from_start i s es h (omega arith)
from_drop i (suc n) s [] k h = refl
from_drop i (suc n) s (e ∷ es) k h =
    let t : leb i e.index ≡ false = rw h.0 (grind (arith, nat_tests)) in
    rw t (from_drop i n (suc s) es (omega arith) h.1)

pub end_of-run : (s : ℕ) (es : List EntryIndex) → RisesFrom s es → 0 < length es → end_of es ≡ s + length es
unfolding end_of
end_of-run s [] h l = absurd (omega arith)
end_of-run s (e ∷ []) h l = rw h.0 (omega arith)
end_of-run s (e ∷ x ∷ es) h l =
    let k = end_of-run (suc s) (x ∷ es) h.1 (omega arith) in
    rw (h.0, k) (omega arith)

pub RisesFrom-append : (s : ℕ) (a b : List EntryIndex) → RisesFrom s a → RisesFrom (s + length a) b → RisesFrom s (a ++ b)
RisesFrom-append s [] b h k = let e : s + 0 ≡ s = omega arith in rw e at k
RisesFrom-append s (x ∷ a) b h k =
    let e : s + suc (length a) ≡ suc s + length a = omega arith in
    (h.0, RisesFrom-append (suc s) a b h.1 (rw e at k))

pub rises_behind : (s : ℕ) (a b : List EntryIndex) → RisesFrom s (a ++ b) → RisesFrom (s + length a) b
rises_behind s [] b h = let e : s + 0 ≡ s = omega arith in rw e h
rises_behind s (x ∷ a) b h = let e : s + suc (length a) ≡ suc s + length a = omega arith in rw e (rises_behind (suc s) a b h.1)

pub RisesFrom-take : (n s : ℕ) (es : List EntryIndex) → RisesFrom s es → RisesFrom s (take n es)
RisesFrom-take zero s es h = tt
RisesFrom-take (suc n) s [] h = tt
RisesFrom-take (suc n) s (e ∷ es) h = (h.0, RisesFrom-take n (suc s) es h.1)

pub RisesFrom-drop : (n s : ℕ) (es : List EntryIndex) → RisesFrom s es → n ≤ length es → RisesFrom (s + n) (drop n es)
RisesFrom-drop zero s es h l = let e : s + 0 ≡ s = omega arith in rw e h
RisesFrom-drop (suc n) s [] h l = absurd (omega arith)
RisesFrom-drop (suc n) s (e ∷ es) h l =
    let k : s + suc n ≡ suc s + n = omega arith in
    rw k (RisesFrom-drop n (suc s) es h.1 (omega arith))

pub IsRun-drop : (n s : ℕ) (es : List EntryIndex) → RisesFrom s es → IsRun (drop n es)
IsRun-drop zero s es h = run_of s es h
IsRun-drop (suc n) s [] h = tt
IsRun-drop (suc n) s (e ∷ es) h = IsRun-drop n (suc s) es h.1

-- a run without entries begins anywhere, another where its first entry stands
pub rises : (es : List EntryIndex) → IsRun es → RisesFrom (start_of es) es
rises [] run = tt
rises (e ∷ es) run = (refl, run)

pub start-of_rising : (s : ℕ) (es : List EntryIndex) → RisesFrom s es → 0 < length es → start_of es ≡ s
start-of_rising s [] h l = absurd (omega arith)
start-of_rising s (e ∷ es) h l = h.0

pub end_of-append : (a b : List EntryIndex) → end_of (a ++ b) ≡ max (end_of a) (end_of b)
unfolding end_of
end_of-append [] b = omega arith
end_of-append (e ∷ a) b = rw (end_of-append a b) (omega arith)

pub end_of-take : (n : ℕ) (es : List EntryIndex) → end_of (take n es) ≤ end_of es
unfolding end_of
end_of-take zero es = omega arith
end_of-take (suc n) [] = omega arith
end_of-take (suc n) (e ∷ es) = let h = end_of-take n es in omega arith

pub end_of-drop : (n : ℕ) (es : List EntryIndex) → end_of (drop n es) ≤ end_of es
unfolding end_of
end_of-drop zero es = omega arith
end_of-drop (suc n) [] = omega arith
end_of-drop (suc n) (e ∷ es) = let h = end_of-drop n es in omega arith

pub entry_at_low : (i s : ℕ) (es : List EntryIndex) → i < s → RisesFrom s es → entry_at i es ≡ None
entry_at_low i s [] l h = refl
entry_at_low i s (e ∷ es) l h =
    let t : eqb e.index i ≡ false = rw h.0 (grind (arith, nat_tests)) in
    rw t (entry_at_low i (suc s) es (omega arith) h.1)

pub entry_at_past : (i k s : ℕ) (es : List EntryIndex) → i ≡ s + k → length es ≤ k → RisesFrom s es → entry_at i es ≡ None
entry_at_past i k s [] e l h = refl
entry_at_past i zero s (x ∷ es) e l h = absurd (omega arith)
entry_at_past i (suc k) s (x ∷ es) e l h =
    let t : eqb x.index i ≡ false = rw h.0 (grind (arith, nat_tests)) in
    rw t (entry_at_past i k (suc s) es (omega arith) (omega arith) h.1)

pub index_at : (k s : ℕ) (es : List EntryIndex) (d : EntryIndex) → k < length es → RisesFrom s es → (get_or es k d).index ≡ s + k
index_at k s [] d l h = absurd (omega arith)
index_at zero s (x ∷ es) d l h = h.0 ∙ omega arith
index_at (suc k) s (x ∷ es) d l h = index_at k (suc s) es d (omega arith) h.1 ∙ omega arith
