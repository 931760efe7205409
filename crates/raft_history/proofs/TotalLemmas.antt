-- Numbers of the values of a map, together.
use Rattle.raft_history.proofs.Common.{Less, Equal, Greater, T, no_both, ◌≡◌, ◌⊎◌, ℕ, ◌+◌, ◌≤◌, true, false, cond, not, List, [], ◌∷◌, length, Option, Some, None, refl, sym, ap, ◌∙◌, inl, inr, arith, nat_cmp, eq_by_cmp, is_eq}
use Rattle.raft_history.proofs.Common.{nat_cmp_total, put, is_sorted, nat_cmp-IsAntisymmetric, where_key, by_order, entries-remove, find-below, where_key-below, below_all-less, below_all-equal, first_of_both, second_of_both, equal}
use Rattle.raft_history.proofs.Common.{total_of, total}
use Rattle.std.specs.FinMap as finite
use Rattle.std.specs.FinMap.{find}
use Rattle.raft_history.proofs.KnownLemmas.{entries-empty, tied}
use Rattle.raft_history.proofs.MapLemmas.{IsOther, by_region, get_left}
use Rattle.raft_history.proofs.StepListLemmas.{eqb_self}

module _ {X : Type 0} (f : X → ℕ) where
  abbrev pub found : Option X → ℕ
  found None = 0
  found (Some x) = f x

  total-put : (k : ℕ) (t : X) (es : List (ℕ × X)) → T (is_sorted nat_cmp es) → total_of f (put nat_cmp k t es) + found (find nat_cmp k es) ≡ total_of f es + f t
  total-put k t [] h = omega arith
  total-put k t (e ∷ es) h =
      elim (nat_cmp k e.0) as (λ r. nat_cmp k e.0 ≡ r → total_of f (by_order r ((k, t) ∷ e ∷ es) ((e.0, t) ∷ es) (e ∷ put nat_cmp k t es)) + found (cond (is_eq r) (Some e.1) (find nat_cmp k es)) ≡ total_of f (e ∷ es) + f t) [
        | Less ↦ λ p. rw (find-below nat_cmp_total k es (below_all-less nat_cmp_total k e.0 es p (first_of_both _ _ h))) (omega arith)
        | Equal ↦ λ p. omega arith
        | Greater ↦ λ p. omega (arith, total-put k t es (second_of_both _ _ h))
      ] refl

  total-without : (k : ℕ) (es : List (ℕ × X)) → T (is_sorted nat_cmp es) → total_of f (where_key nat_cmp (λ x. not (eq_by_cmp nat_cmp k x)) es) + found (find nat_cmp k es) ≡ total_of f es
  total-without k [] h = refl
  total-without k (e ∷ es) h =
      let rest = where_key nat_cmp (λ x. not (eq_by_cmp nat_cmp k x)) es in
      elim (is_eq (nat_cmp k e.0)) as (λ b. is_eq (nat_cmp k e.0) ≡ b → total_of f (cond (not b) (e ∷ rest) rest) + found (cond b (Some e.1) (find nat_cmp k es)) ≡ total_of f (e ∷ es)) [
        | true ↦ λ p. rw (where_key-below nat_cmp_total k es (below_all-equal nat_cmp_total k e.0 es (equal _ p) (first_of_both _ _ h))) (omega arith)
        | false ↦ λ p. omega (arith, total-without k es (second_of_both _ _ h))
      ] refl

  pub total-insert : (m : finite.FinMap nat_cmp X) (k : ℕ) (t : X) → total f (finite.insert m k t) + found (finite.get m k) ≡ total f m + f t
  unfolding total
  total-insert m k t = rw (finite.entries-insert nat_cmp_total, finite.get-entries) (total-put k t (finite.entries m) (finite.entries_sorted m))

  pub total-remove : (m : finite.FinMap nat_cmp X) (k : ℕ) → total f (finite.remove m k) + found (finite.get m k) ≡ total f m
  unfolding total
  total-remove m k = rw (entries-remove nat_cmp_total nat_cmp-IsAntisymmetric, finite.get-entries) (total-without k (finite.entries m) (finite.entries_sorted m))

  pub total-none : total f finite.empty ≡ 0
  unfolding total
  total-none = ap (total_of f) entries-empty

ones : {X : Type 0} (es : List (ℕ × X)) → total_of (λ x. 1) es ≡ length es
ones [] = refl
ones (e ∷ es) = omega (arith, ones es)

pub total-ones : {X : Type 0} (m : finite.FinMap nat_cmp X) → total (λ x. 1) m ≡ finite.len m
unfolding total
total-ones {X} m = ones (finite.entries m) ∙ sym (finite.len-entries m)

-- what is there at a key of the one map is there, and no less, in the other
module _ {X Y : Type 0} (f : X → ℕ) (g : Y → ℕ) where
  abbrev pub IsMet : Option X → Option Y → Type 0
  IsMet o p = (x : X) → o ≡ Some x → (y : Y) × (p ≡ Some y) × (f x ≤ g y)

  at-most : (es : List (ℕ × X)) → T (is_sorted nat_cmp es) → (n : finite.FinMap nat_cmp Y) → ((r : ℕ) → IsMet (find nat_cmp r es) (finite.get n r)) → total_of f es ≤ total g n
  at-most [] s n h = omega arith
  at-most (e ∷ es) s n h =
      let y = h e.0 e.1 (ap (λ b. cond b (Some e.1) (find nat_cmp e.0 es)) (tied e.0 e.0 ∙ eqb_self e.0)) in
      omega (arith, y.2, total-remove g n e.0, ap (found g) y.1, at-most es (second_of_both _ _ s) (finite.remove n e.0) (λ r. rest r (by_region r e.0)))
    where
      rest : (r : ℕ) → (r ≡ e.0) ⊎ IsOther r e.0 → IsMet (find nat_cmp r es) (finite.get (finite.remove n e.0) r)
      rest r (inl p) x k = absurd (no_both (ap (λ r. find nat_cmp r es) p ∙ find-below nat_cmp_total e.0 es (first_of_both _ _ s)) k)
      rest r (inr o) x k = let y = h r x (ap (λ b. cond b (Some e.1) (find nat_cmp r es)) o.1 ∙ k) in (y.0, get_left n e.0 r o.1 ∙ y.1, y.2)

  pub total-at_most : (m : finite.FinMap nat_cmp X) (n : finite.FinMap nat_cmp Y) → ((r : ℕ) → IsMet (finite.get m r) (finite.get n r)) → total f m ≤ total g n
  unfolding total
  total-at_most m n h = at-most (finite.entries m) (finite.entries_sorted m) n (λ r x k. h r x (finite.get-entries m r ∙ k))

-- where each value of a map is no more than those of two others together, so are all
module _ {X : Type 0} (f : X → ℕ) where
  of-both : (es : List (ℕ × X)) → T (is_sorted nat_cmp es) → (a b : finite.FinMap nat_cmp X) → ((r : ℕ) → found f (find nat_cmp r es) ≤ found f (finite.get a r) + found f (finite.get b r)) → total_of f es ≤ total f a + total f b
  of-both [] s a b h = omega arith
  of-both (e ∷ es) s a b h =
      omega (
        arith,
        h e.0,
        ap (λ t. found f (cond t (Some e.1) (find nat_cmp e.0 es))) (tied e.0 e.0 ∙ eqb_self e.0),
        total-remove f a e.0,
        total-remove f b e.0,
        of-both es (second_of_both _ _ s) (finite.remove a e.0) (finite.remove b e.0) (λ r. rest r (by_region r e.0)),
      )
    where
      rest : (r : ℕ) → (r ≡ e.0) ⊎ IsOther r e.0 → found f (find nat_cmp r es) ≤ found f (finite.get (finite.remove a e.0) r) + found f (finite.get (finite.remove b e.0) r)
      rest r (inl p) = omega (arith, ap (found f) (ap (λ r. find nat_cmp r es) p ∙ find-below nat_cmp_total e.0 es (first_of_both _ _ s)))
      rest r (inr o) = omega (arith, h r, ap (λ t. found f (cond t (Some e.1) (find nat_cmp r es))) o.1, ap (found f) (get_left a e.0 r o.1), ap (found f) (get_left b e.0 r o.1))

  pub total-both : (m a b : finite.FinMap nat_cmp X) → ((r : ℕ) → found f (finite.get m r) ≤ found f (finite.get a r) + found f (finite.get b r)) → total f m ≤ total f a + total f b
  unfolding total
  total-both m a b h = of-both (finite.entries m) (finite.entries_sorted m) a b (λ r. omega (arith, h r, ap (found f) (finite.get-entries m r)))
