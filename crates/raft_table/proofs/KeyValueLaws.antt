-- What merged pairs hold at a key, and what the least of some numbers is.
use Rattle.raft_table.proofs.Common.{◌≡◌, ℕ, suc, ◌≤◌, true, false, cond, List, [], ◌∷◌, length, min, Option, Some, None, Contains, All, refl, sym, ap, subst, ◌∙◌, arith, inl, inr, nat_cmp, eq_by_cmp, option_or, slice_cmp}
use Rattle.raft_table.proofs.Common.{nat_list_cmp_total, find, is_sorted, cases_lt, All-cons, Keys, Stored, least, lesser, pairs_over, with_pairs}
use lib.Dec.{T}
use Rattle.raft_table.proofs.Shown.{find-below, below_all-equal, first_of_both, second_of_both, equal}
use Rattle.std.specs.FinMap as finite

get-with_pairs : (es : List (List ℕ × Stored)) (keys : Keys) (q : List ℕ) → T (is_sorted (slice_cmp nat_cmp) es) → finite.get (with_pairs keys es) q ≡ option_or (find (slice_cmp nat_cmp) q es) (finite.get keys q)
get-with_pairs [] keys q h = refl
get-with_pairs (e ∷ es) keys q h =
    let rest = get-with_pairs es (finite.insert keys e.0 e.1) q (second_of_both _ _ h) ∙ ap (option_or (find (slice_cmp nat_cmp) q es)) (finite.get-insert nat_list_cmp_total keys e.0 e.1 q) in
    elim (eq_by_cmp (slice_cmp nat_cmp) q e.0) as (λ b. eq_by_cmp (slice_cmp nat_cmp) q e.0 ≡ b →
    finite.get (with_pairs keys (e ∷ es)) q ≡ option_or (find (slice_cmp nat_cmp) q es) (cond b (Some e.1) (finite.get keys q)) →
    finite.get (with_pairs keys (e ∷ es)) q ≡ option_or (cond b (Some e.1) (find (slice_cmp nat_cmp) q es)) (finite.get keys q)) [
      | true ↦ λ t r. r ∙ ap (λ o. option_or o (Some e.1)) (find-below nat_list_cmp_total q es (below_all-equal nat_list_cmp_total q e.0 es (equal _ t) (first_of_both _ _ h)))
      | false ↦ λ t r. r
    ] refl rest

pub get-pairs_over : (newer older : Keys) (q : List ℕ) → finite.get (pairs_over newer older) q ≡ option_or (finite.get newer q) (finite.get older q)
get-pairs_over newer older q = get-with_pairs (finite.entries newer) older q (finite.entries_sorted newer) ∙ ap (λ o. option_or o (finite.get older q)) (sym (finite.get-entries newer q))

pub least-none : (ns : List ℕ) → least ns ≡ None → ns ≡ []
least-none [] e = refl
least-none (n ∷ ns) e = (elim (least ns) as (λ m. lesser (Some n) m ≡ None → n ∷ ns ≡ []) [ None ↦ λ e. absurd cc | Some m ↦ λ e. absurd cc ]) e

all_above : (a b : ℕ) (ns : List ℕ) → a ≤ b → All (λ m. b ≤ m) ns → All (λ m. a ≤ m) ns
all_above a b ns p h = λ k d l. omega (arith, h k d l)

same_Some : (a b : ℕ) → Some a ≡ Some b → a ≡ b
same_Some a b e = cc

pub least-lowest : (ns : List ℕ) (n : ℕ) → least ns ≡ Some n → All (λ m. n ≤ m) ns
least-lowest [] n e = absurd cc
least-lowest (x ∷ xs) n e = go (least xs) refl e (least-lowest xs)
  where
    go : (m : Option ℕ) → least xs ≡ m → lesser (Some x) m ≡ Some n → ((k : ℕ) → least xs ≡ Some k → All (λ m. k ≤ m) xs) → All (λ m. n ≤ m) (x ∷ xs)
    go None is e rest =
        let same = same_Some x n e in
        let none : length xs ≡ 0 = ap length (least-none xs is) in
        All-cons (λ m. n ≤ m) x xs (omega arith) (λ k d l. absurd (omega arith))
    go (Some m) is e rest =
        let same = same_Some (min x m) n e in
        All-cons (λ m. n ≤ m) x xs (omega arith) (all_above n m xs (omega arith) (rest m is))

here : (x n : ℕ) (xs : List ℕ) → x ≡ n → Contains (x ∷ xs) n
here x n xs e = (0, omega arith, e)

later : (x n : ℕ) (xs : List ℕ) → Contains xs n → Contains (x ∷ xs) n
later x n xs h = (suc h.0, omega (arith, h.1), h.2)

pub least-found : (ns : List ℕ) (n : ℕ) → least ns ≡ Some n → Contains ns n
least-found [] n e = absurd cc
least-found (x ∷ xs) n e = go (least xs) refl e (least-found xs)
  where
    go : (m : Option ℕ) → least xs ≡ m → lesser (Some x) m ≡ Some n → ((k : ℕ) → least xs ≡ Some k → Contains xs k) → Contains (x ∷ xs) n
    go None is e rest = here x n xs (same_Some x n e)
    go (Some m) is e rest =
        let same = same_Some (min x m) n e in
        elim (cases_lt x m) [
          | inl p ↦ here x n xs (omega arith)
          | inr p ↦ later x n xs (subst (Contains xs) (omega arith) (rest m is))
        ]
