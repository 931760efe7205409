-- Weights of lists: joined, changed at one place, and bounded.
use Rattle.raft_tickets.proofs.Common.{◌≡◌, ℕ, zero, suc, ◌+◌, ◌≤◌, List, [], ◌∷◌, ◌++◌, set, take, drop, replicate, sym, ap, arith, weigh}
use mathlib.Core.Option.{some, some-injective, some-ne-none}
use lib.ListN.{get_elem?}

module _ {A : Type 0} (f : A → ℕ) where
  pub weigh-append : (xs ys : List A) → weigh f (xs ++ ys) ≡ weigh f xs + weigh f ys
  weigh-append [] ys = omega arith
  weigh-append (x ∷ xs) ys = let r = weigh-append xs ys in omega arith

  -- one element changes
  pub weigh-set : (xs : List A) (i : ℕ) (v w : A) → get_elem? xs i ≡ some v → weigh f (set xs i w) + f v ≡ weigh f xs + f w
  weigh-set [] i v w at = absurd (some-ne-none v (sym at))
  weigh-set (x ∷ xs) zero v w at = let is : f x ≡ f v = ap f (some-injective x v at) in omega arith
  weigh-set (x ∷ xs) (suc i) v w at = let r = weigh-set xs i v w at in omega arith

  -- one element weighs no more than all
  pub weigh_at : (xs : List A) (i : ℕ) (v : A) → get_elem? xs i ≡ some v → f v ≤ weigh f xs
  weigh_at [] i v at = absurd (some-ne-none v (sym at))
  weigh_at (x ∷ xs) zero v at = let is : f x ≡ f v = ap f (some-injective x v at) in omega arith
  weigh_at (x ∷ xs) (suc i) v at = let r = weigh_at xs i v at in omega arith

  -- the first element and the others
  pub weigh_cut : (xs : List A) → weigh f (take 1 xs) + weigh f (drop 1 xs) ≡ weigh f xs
  weigh_cut [] = omega arith
  weigh_cut (x ∷ xs) = omega arith

  pub weigh-replicate : (n : ℕ) (x : A) (w : ℕ) → f x ≡ w → (w ≡ 0 → weigh f (replicate n x) ≡ 0) × (w ≡ 1 → weigh f (replicate n x) ≡ n)
  weigh-replicate zero x w is = ((λ _. omega arith), λ _. omega arith)
  weigh-replicate (suc n) x w is =
      let r = weigh-replicate n x w is in ((λ none. let h = r.0 none in omega arith), λ one. let h = r.1 one in omega arith)

  -- no element weighs more by f than by g
  pub weigh_le : (g : A → ℕ) → ((x : A) → f x ≤ g x) → (xs : List A) → weigh f xs ≤ weigh g xs
  weigh_le g below [] = omega arith
  weigh_le g below (x ∷ xs) = let h = below x in let r = weigh_le g below xs in omega arith

  -- what weighs nothing where each element counts has no element
  pub weigh_none : (xs : List A) → weigh (λ _. 1) xs ≡ 0 → weigh f xs ≡ 0
  weigh_none [] none = omega arith
  weigh_none (x ∷ xs) none = absurd (omega arith)

-- lists of lists
module _ {A : Type 0} (f : A → ℕ) where
  pub weigh_none_in : (xss : List (List A)) → weigh (weigh (λ _. 1)) xss ≡ 0 → weigh (weigh f) xss ≡ 0
  weigh_none_in [] none = omega arith
  weigh_none_in (xs ∷ xss) none =
      let here = weigh_none f xs (omega arith) in let there = weigh_none_in xss (omega arith) in omega arith

  -- where one list has all elements, it weighs as much as all lists
  pub weigh_all_of_one : (xss : List (List A)) (i : ℕ) (v : List A)
      → get_elem? xss i ≡ some v → weigh (weigh (λ _. 1)) xss ≡ weigh (λ _. 1) v → weigh (weigh f) xss ≡ weigh f v
  weigh_all_of_one [] i v at all = absurd (some-ne-none v (sym at))
  weigh_all_of_one (xs ∷ xss) zero v at all =
      let is = some-injective xs v at in
      let one : weigh (λ (_ : A). 1) xs ≡ weigh (λ (_ : A). 1) v = ap (λ (l : List A). weigh (λ (_ : A). 1) l) is in
      let same : weigh f xs ≡ weigh f v = ap (λ (l : List A). weigh f l) is in
      let rest = weigh_none_in xss (omega arith) in omega arith
  weigh_all_of_one (xs ∷ xss) (suc i) v at all =
      let within = weigh_at (weigh (λ _. 1)) xss i v at in
      let here = weigh_none f xs (omega arith) in
      let there = weigh_all_of_one xss i v at (omega arith) in omega arith
