-- What is known of regions, when one of them is noted.
use Rattle.raft_accessor.proofs.Common.{◌≡◌, ◌≢◌, ◌⊎◌, ℕ, cond, false, true, List, ◌∷◌, Option, Some, None, lookup, nat_eq, refl, sym, ap, ◌∙◌, inl, inr, Extent}
use Rattle.raft_history.proofs.MapLemmas.{by_region}
use Rattle.raft_accessor.proofs.MapLemmas.{self_same}
use Rattle.raft_accessor.specs.Extents.{IsFirst, first_and_others}

-- two regions are one, or not
both_ways : (q r : ℕ) → (q ≡ r) ⊎ ((nat_eq q r ≡ false) × (nat_eq r q ≡ false))
both_ways q r = elim (by_region q r) [
  | inl p ↦ inl p
  | inr o ↦ elim (by_region r q) [ inl p ↦ inl (sym p) | inr u ↦ inr (o.0, u.0) ]
]

-- this region is looked up
at_own : (id q : ℕ) (x : Extent) (o : Option Extent) → q ≡ id → cond (nat_eq q id) (Some x) o ≡ Some x
at_own id q x o p = ap (λ n. cond (nat_eq n id) (Some x) o) p ∙ ap (λ b. cond b (Some x) o) (self_same id)

own_at : (id q : ℕ) (x : Extent) (o : Option Extent) → q ≡ id → cond (nat_eq id q) (Some x) o ≡ Some x
own_at id q x o p = ap (λ n. cond (nat_eq id n) (Some x) o) p ∙ ap (λ b. cond b (Some x) o) (self_same id)

-- it is the first one
pub first_noted : (id : ℕ) (y : Extent) (first : Option (ℕ × Extent)) (others : List (ℕ × Extent)) → IsFirst id first → (q : ℕ)
    → lookup (nat_eq q) (first_and_others (Some (id, y)) others) ≡ cond (nat_eq id q) (Some y) (lookup (nat_eq q) (first_and_others first others))
first_noted id y None others h q = elim (both_ways q id) [
  | inl p ↦ at_own id q y (lookup (nat_eq q) others) p ∙ sym (own_at id q y (lookup (nat_eq q) others) p)
  | inr o ↦ ap (λ b. cond b (Some y) (lookup (nat_eq q) others)) (o.0 ∙ sym o.1)
]
first_noted id y (Some first) others h q = elim (both_ways q id) [
  | inl p ↦ at_own id q y (lookup (nat_eq q) others) p ∙ sym (own_at id q y (lookup (nat_eq q) (first ∷ others)) p)
  | inr o ↦ ap (λ b. cond b (Some y) (lookup (nat_eq q) others)) o.0
      ∙ sym (ap (λ b. cond b (Some y) (lookup (nat_eq q) (first ∷ others))) o.1 ∙ ap (λ n. cond (nat_eq q n) (Some first.1) (lookup (nat_eq q) others)) h
      ∙ ap (λ b. cond b (Some first.1) (lookup (nat_eq q) others)) o.0)
]

-- another one is the first
other_first : (id : ℕ) (y : Extent) (first : ℕ × Extent) (others new : List (ℕ × Extent)) → first.0 ≢ id
    → ((q : ℕ) → lookup (nat_eq q) new ≡ cond (nat_eq id q) (Some y) (lookup (nat_eq q) others)) → (q : ℕ)
    → lookup (nat_eq q) (first ∷ new) ≡ cond (nat_eq id q) (Some y) (lookup (nat_eq q) (first ∷ others))
other_first id y first others new other noted q = elim (both_ways q first.0) [
  | inl p ↦ at_own first.0 q first.1 (lookup (nat_eq q) new) p ∙ sym (apart p ∙ at_own first.0 q first.1 (lookup (nat_eq q) others) p)
  | inr o ↦ ap (λ b. cond b (Some first.1) (lookup (nat_eq q) new)) o.0 ∙ noted q
      ∙ sym (ap (λ b. cond (nat_eq id q) (Some y) (cond b (Some first.1) (lookup (nat_eq q) others))) o.0)
]
  where
    apart : q ≡ first.0 → cond (nat_eq id q) (Some y) (lookup (nat_eq q) (first ∷ others)) ≡ lookup (nat_eq q) (first ∷ others)
    apart p = elim (both_ways q id) [
      | inl same ↦ absurd (other (sym p ∙ same))
      | inr o ↦ ap (λ b. cond b (Some y) (lookup (nat_eq q) (first ∷ others))) o.1
    ]

pub other_noted : (id : ℕ) (y : Extent) (first : Option (ℕ × Extent)) (others new : List (ℕ × Extent)) → ¬ (IsFirst id first)
    → ((q : ℕ) → lookup (nat_eq q) new ≡ cond (nat_eq id q) (Some y) (lookup (nat_eq q) others)) → (q : ℕ)
    → lookup (nat_eq q) (first_and_others first new) ≡ cond (nat_eq id q) (Some y) (lookup (nat_eq q) (first_and_others first others))
other_noted id y None others new other noted q = absurd (other tt)
other_noted id y (Some first) others new other noted q = other_first id y first others new other noted q
