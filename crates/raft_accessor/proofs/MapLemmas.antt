-- Maps under numbers: one key written or taken away.
use Rattle.raft_accessor.proofs.Common.{Equal, ◌≡◌, ◌⊎◌, ℕ, ◌==◌, true, false, Some, None, refl, sym, ap, subst, ◌∙◌, inl, inr, nat_cmp, is_eq, eq_by_cmp, nat_cmp_total, nat_cmp_is, nat_cmp-IsAntisymmetric, equal, Table, Tables, with_table}
use Rattle.raft_accessor.proofs.Common.{false≢true, eqb-true, [], nil_from_length}
use Rattle.std.specs.FinMap as finite
pub use Rattle.raft_history.proofs.MapLemmas.{get_gone, get_left, get_other, get_own, with_other, with_own}
pub use Rattle.raft_history.proofs.OptionLemmas.{some_is}
pub use Rattle.raft_history.proofs.StepListLemmas.{eqb_self as self_same}

pub eq_self : (n : ℕ) → eq_by_cmp nat_cmp n n ≡ true
eq_self n = ap is_eq (sym (nat_cmp_is n n Equal refl))

pub none_some : {X : Type 0} {x : X} → None ≡ Some x → ⊥
none_some e = cc

-- a key is the given one, or another
pub by_id : (q id : ℕ) → (q ≡ id) ⊎ (eq_by_cmp nat_cmp q id ≡ false)
by_id q id = elim (eq_by_cmp nat_cmp q id) as (λ b. eq_by_cmp nat_cmp q id ≡ b → (q ≡ id) ⊎ (b ≡ false)) [ true ↦ λ e. inl (nat_cmp-IsAntisymmetric q id (equal _ e)) | false ↦ λ e. inr refl ] refl

module _ {X : Type 0} where
  pub same : (m n : finite.FinMap nat_cmp X) → ((q : ℕ) → finite.get m q ≡ finite.get n q) → m ≡ n
  same m n h = finite.same_map nat_cmp_total nat_cmp-IsAntisymmetric m n h

  -- what is there already written again
  pub insert_same : (m : finite.FinMap nat_cmp X) (id : ℕ) (x : X) → finite.get m id ≡ Some x → finite.insert m id x ≡ m
  insert_same m id x e = same _ _ (λ q. elim (by_id q id) [ inl p ↦ ap (finite.get (finite.insert m id x)) p ∙ get_own m id x ∙ sym (ap (finite.get m) p ∙ e) | inr f ↦ get_other m id q x f ])

  pub insert_twice : (m : finite.FinMap nat_cmp X) (id : ℕ) (x y : X) → finite.insert (finite.insert m id x) id y ≡ finite.insert m id y
  insert_twice m id x y =
      same _ _ (λ q. elim (by_id q id) [
        | inl p ↦ ap (finite.get (finite.insert (finite.insert m id x) id y)) p ∙ get_own _ id y ∙ sym (ap (finite.get (finite.insert m id y)) p ∙ get_own m id y)
        | inr f ↦ get_other _ id q y f ∙ get_other m id q x f ∙ sym (get_other m id q y f)
      ])

  -- what was made is taken away again
  pub remove_made : (m : finite.FinMap nat_cmp X) (id : ℕ) (x : X) → finite.get m id ≡ None → finite.remove (finite.insert m id x) id ≡ m
  remove_made m id x e =
      same _ _ (λ q. elim (by_id q id) [
        | inl p ↦ ap (finite.get (finite.remove (finite.insert m id x) id)) p ∙ get_gone _ id ∙ sym (ap (finite.get m) p ∙ e)
        | inr f ↦ get_left _ id q f ∙ get_other m id q x f
      ])

  pub entries-empty : (m : finite.FinMap nat_cmp X) → m ≡ finite.empty → finite.entries m ≡ []
  entries-empty m e = ap finite.entries e ∙ nil_from_length _ (sym (finite.len-entries {K = ℕ} {X = X} {R = nat_cmp} finite.empty) ∙ finite.len-empty nat_cmp X)

-- ---- tests of numbers

pub not_same : (a b : ℕ) → eq_by_cmp nat_cmp b a ≡ false → (a == b) ≡ false
not_same a b f = elim (a == b) as (λ t. (a == b) ≡ t → t ≡ false) [ true ↦ λ e. absurd (false≢true (sym f ∙ ap (eq_by_cmp nat_cmp b) (eqb-true a b e) ∙ eq_self b)) | false ↦ λ e. refl ] refl

-- ---- a table written, or taken away

pub with_same : (m : Tables) (id : ℕ) → with_table m id (finite.get m id) ≡ m
with_same m id = same _ _ (λ q. elim (by_id q id) [ inl p ↦ subst (λ q. finite.get (with_table m id (finite.get m id)) q ≡ finite.get m q) (sym p) (with_own m id (finite.get m id)) | inr f ↦ with_other m id q (finite.get m id) f ])

-- what is written at one region, or stays, is a change of that region
pub one_written : (m n : Tables) (id : ℕ) (t : Table) → n ≡ finite.insert m id t → n ≡ with_table m id (finite.get n id)
one_written m n id t e = e ∙ sym (ap (with_table m id) (ap (λ r. finite.get r id) e ∙ get_own m id t))

pub one_same : (m n : Tables) (id : ℕ) → n ≡ m → n ≡ with_table m id (finite.get n id)
one_same m n id e = e ∙ sym (ap (λ r. with_table m id (finite.get r id)) e ∙ with_same m id)
