-- Walks over tables.
use Rattle.raft_accessor.proofs.Common.{◌≡◌, Bool, true, List, [], ◌∷◌, ◌++◌, sym, ap, subst, ◌∙◌, append_assoc, append-nil, FoldsTo, Table, Tables, Collects, ℕ, refl, map, nat_eq, keys_of, IsDistinct, IsPermutation}
use Rattle.std.specs.Borrow.{Bor}
use Rattle.std.specs.Fn.{Mut, CalledAt}
use Rattle.std.specs.Prelude.{if◌then◌else◌}
use Rattle.std.specs.FinMap as finite
use Rattle.raft_accessor.proofs.OrderLemmas.{values-permuted}

pub folds-append : {P A : Type 0} (R : P → A → P → Type 0) (p q r : P) (xs ys : List A) → FoldsTo R p xs q → FoldsTo R q ys r → FoldsTo R p (xs ++ ys) r
folds-append R p q r [] ys g h = subst (λ p. FoldsTo R p ys r) (sym g) h
folds-append R p q r (x ∷ xs) ys g h = (g.0, g.1, folds-append R g.0 q r xs ys g.2 h)

pub all-kept : {F : Type 0} (g : Mut F (Bor Table × Unit {0}) Bool) (p q : F × List Table) (ts : List Table) → ((f f' : F) (t : Table) (b : Bool) → CalledAt g f t b f' → b ≡ true) → FoldsTo (Collects g) p ts q → q.1 ≡ p.1 ++ ts
all-kept g p q [] all h = sym (ap (λ (x : _ × List Table). x.1) h) ∙ sym (append-nil p.1)
all-kept g p q (t ∷ ts) all h = all-kept g h.0 q ts all h.2 ∙ ap (λ l. l ++ ts) (h.1.2 ∙ ap (λ b. if b then p.1 ++ t ∷ [] else p.1) (all p.0 h.0.0 t h.1.0 h.1.1)) ∙ append_assoc p.1 (t ∷ []) ts

-- one table more
pub folds-first : {P A : Type 0} (R : P → A → P → Type 0) (p q last : P) (x : A) (xs rest : List A) → rest ≡ x ∷ xs → R p x q → FoldsTo R q xs last → FoldsTo R p rest last
folds-first R p q last x xs rest is h g = subst (λ l. FoldsTo R p l last) (sym is) (q, h, g)

-- all tables of a hash map
pub walked : {P : Type 0} (R : P → Table → P → Type 0) (p q : P) (es : List (ℕ × Table)) (m : Tables) (all rest : List Table) → IsDistinct nat_eq (keys_of es) → finite.from_entries es ≡ m → all ≡ map (λ e. e.1) es → rest ≡ [] →
    ((last : P) → FoldsTo R q rest last → FoldsTo R p all last) → (ts : List Table) × IsPermutation ts (finite.values m) × FoldsTo R p ts q
walked R p q es m all rest once is gives none steps = (
  map (λ e. e.1) es,
  subst (λ m. IsPermutation (map (λ e. e.1) es) (finite.values m)) is (values-permuted es once),
  subst (λ l. FoldsTo R p l q) gives (steps q (subst (λ l. FoldsTo R q l q) (sym none) refl)),
)
