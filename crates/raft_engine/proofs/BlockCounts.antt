-- How many blocks entries make, when one more comes.
use Rattle.raft_engine.proofs.Common.{◌≡◌, ℕ, suc, ◌+◌, ◌≤◌, false, cond, List, [], ◌∷◌, ◌++◌, Option, Some, None, refl, sym, ap, ◌∙◌, arith, EntryIndex, FileBlockHandle, are_same_places, block_count, change_count, other_place_is, same_place_self}

-- the last of these entries has this place
abbrev pub EndsAt : List EntryIndex → FileBlockHandle → Type 0
EndsAt [] p = ⊥
EndsAt (e ∷ []) p = e.entries ≡ Some p
EndsAt (e ∷ f ∷ es) p = EndsAt (f ∷ es) p

pub ends_more : (es : List EntryIndex) (e : EntryIndex) (p : FileBlockHandle) → e.entries ≡ Some p → EndsAt (es ++ e ∷ []) p
ends_more [] e p h = h
ends_more (a ∷ []) e p h = h
ends_more (a ∷ b ∷ es) e p h = ends_more (b ∷ es) e p h

-- ---- the same place

same_change : (es : List EntryIndex) (e : EntryIndex) (p : FileBlockHandle) → EndsAt es p → e.entries ≡ Some p → change_count (es ++ e ∷ []) ≡ change_count es
same_change [] e p h k = absurd h
same_change (a ∷ []) e p h k = rw (h, k, same_place_self p) refl
same_change (a ∷ b ∷ es) e p h k = ap (λ n. cond (are_same_places a.entries b.entries) 0 1 + n) (same_change (b ∷ es) e p h k)

pub same_count : (es : List EntryIndex) (e : EntryIndex) (p : FileBlockHandle) → EndsAt es p → e.entries ≡ Some p → block_count (es ++ e ∷ []) ≡ block_count es
same_count [] e p h k = absurd h
same_count (a ∷ es) e p h k = ap suc (same_change (a ∷ es) e p h k)

-- ---- another place, or none

other_place : (p : FileBlockHandle) (o : Option FileBlockHandle) → (o ≡ Some p → ⊥) → are_same_places (Some p) o ≡ false
other_place p None n = refl
other_place p (Some q) n = other_place_is p q (λ e. n (ap Some (sym e)))

other_change : (es : List EntryIndex) (e : EntryIndex) (p : FileBlockHandle) → EndsAt es p → (e.entries ≡ Some p → ⊥) → change_count (es ++ e ∷ []) ≡ suc (change_count es)
other_change [] e p h n = absurd h
other_change (a ∷ []) e p h n = rw (h, other_place p e.entries n) refl
other_change (a ∷ b ∷ es) e p h n =
    let is : change_count (b ∷ es ++ e ∷ []) ≡ suc (change_count (b ∷ es)) = other_change (b ∷ es) e p h n in
    ap (λ n. cond (are_same_places a.entries b.entries) 0 1 + n) is ∙ next (cond (are_same_places a.entries b.entries) 0 1) (change_count (b ∷ es))
  where
    next : (m n : ℕ) → m + suc n ≡ suc (m + n)
    next m n = omega arith

pub other_count : (es : List EntryIndex) (e : EntryIndex) (p : FileBlockHandle) → EndsAt es p → (e.entries ≡ Some p → ⊥) → block_count (es ++ e ∷ []) ≡ suc (block_count es)
other_count [] e p h n = absurd h
other_count (a ∷ es) e p h n = ap suc (other_change (a ∷ es) e p h n)

-- ---- a prefix

prefix_change : (es fs : List EntryIndex) → change_count es ≤ change_count (es ++ fs)
prefix_change [] fs = omega arith
prefix_change (a ∷ []) fs = omega arith
prefix_change (a ∷ b ∷ es) fs = more (cond (are_same_places a.entries b.entries) 0 1) (change_count (b ∷ es)) (change_count (b ∷ es ++ fs)) (prefix_change (b ∷ es) fs)
  where
    more : (m x y : ℕ) → x ≤ y → m + x ≤ m + y
    more m x y h = omega (arith, h)

pub prefix_count : (es fs : List EntryIndex) → block_count es ≤ block_count (es ++ fs)
prefix_count [] fs = omega arith
prefix_count (a ∷ es) fs = let h : change_count (a ∷ es) ≤ change_count (a ∷ es ++ fs) = prefix_change (a ∷ es) fs in omega (arith, h)
