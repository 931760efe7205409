-- Pairs of keys and values that are kept by a test, or put in the order of their keys.
use denote.Param.Members.{Mut}
use denote.Ref.{Bor}
use Rattle.raft_ffi.proofs.Common.{◌≡◌, ◌<◌, ◌+◌, arith, ℕ, Bool, true, false, cond, List, [], ◌∷◌, filter, map, length, refl, ap, ◌∙◌, subst, Option, Result, Ok, Err, OnOk, nat_list_cmp_total}
use Rattle.raft_ffi.proofs.Common.{always_returns_same, get_or-map, length-map, ranks_by, IsStrictWeakOrder, slice_cmp, Ordering, Called, ComparesAs, IsSortedBy, is_lt, nat_cmp, slice_index_or}
use Rattle.raft_ffi.proofs.Common.{Error, Keys, AreInKeyOrder, ArePairsIn, AreScanned, AreScannedIn}

-- a test of what elements are shown as
pub kept_shown : {E P : Type 0} (show : E → P) (t : P → Bool) (es : List E) → map show (filter (λ e. t (show e)) es) ≡ filter t (map show es)
kept_shown show t [] = refl
kept_shown show t (e ∷ es) =
    elim (t (show e)) as (λ b. map show (cond b (e ∷ filter (λ e. t (show e)) es) (filter (λ e. t (show e)) es)) ≡ cond b (show e ∷ filter t (map show es)) (filter t (map show es))) [
      | true ↦ ap (λ r. show e ∷ r) (kept_shown show t es)
      | false ↦ kept_shown show t es
    ]

module _ {E : Type 0} (show : E → List ℕ × List ℕ) where
  abbrev below : E → E → Bool
  below a b = is_lt (slice_cmp nat_cmp (show a).0 (show b).0)

  -- elements in order are shown in order
  pub rises : (es : List E) → IsSortedBy below es → AreInKeyOrder (map show es)
  rises [] up k d low high = absurd (omega (arith, high))
  rises (e ∷ es) up k d low high =
      let short : k + 1 < length (e ∷ es) = subst (λ n. k + 1 < n) (length-map (e ∷ es) show) high in
      ap (λ (p : List ℕ × List ℕ). is_lt (slice_cmp nat_cmp p.0 (slice_index_or (map show (e ∷ es)) k d).0)) (get_or-map show (e ∷ es) (k + 1) e d short)
      ∙ ap (λ (p : List ℕ × List ℕ). is_lt (slice_cmp nat_cmp (show (slice_index_or (e ∷ es) (k + 1) e)).0 p.0)) (get_or-map show (e ∷ es) k e d (omega (arith, short)))
      ∙ up k e low short

  -- what a sort by the keys leaves
  pub ordered : {F : Type 0} {g : Mut F (Bor E × (Bor E × Unit {0})) Ordering} {f : F} (es : List E)
      → ((lt : E → E → Bool) → IsStrictWeakOrder lt → ComparesAs g lt f → IsSortedBy lt es)
      → ((a : Bor E × (Bor E × Unit {0})) (r : Ordering) (f' : F) → Called g f a r f' → (r ≡ slice_cmp nat_cmp (show a.0.now).0 (show a.1.0.now).0) × (f' ≡ f))
      → AreInKeyOrder (map show es)
  ordered {g = g} {f = f} es up h =
      rises es (up below (ranks_by nat_list_cmp_total (λ e. (show e).0))
      (always_returns_same g (λ a r. is_lt r ≡ below a.0.now a.1.0.now) f (λ a r f' k. (ap is_lt (h a r f' k).0, (h a r f' k).1))))

-- pairs that were scanned are handed out
pub handed_out : {R : Type 0} (r : Result R Error) (start : List ℕ) (end : Option (List ℕ)) (keys : Keys) (pairs : List (List ℕ × List ℕ))
    (old_lens new_lens : List ℕ) (count : ℕ) (old_bytes new_bytes : List ℕ) (len : ℕ)
    → AreScanned start end keys pairs → OnOk r (ArePairsIn pairs old_lens new_lens count old_bytes new_bytes len)
    → OnOk r (AreScannedIn start end keys old_lens new_lens count old_bytes new_bytes len)
handed_out (Ok x) start end keys pairs old_lens new_lens count old_bytes new_bytes len scanned found =
    record { pairs = pairs; scanned = scanned; found = found }
handed_out (Err e) start end keys pairs old_lens new_lens count old_bytes new_bytes len scanned found = tt
