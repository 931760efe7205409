-- The first and the last index of a table.
use Rattle.raft_report.proofs.Common.{◌≡◌, ◌≢◌, ℕ, ◌+◌, List, [], ◌∷◌, Option, Some, None, MatchOption, refl, ap, arith, end_of, EntryIndex, start_of, first_of, last_of}

pub first_is : (es : List EntryIndex) (r : Option ℕ) → MatchOption r (es ≡ []) (λ i. (es ≢ []) × (i ≡ start_of es)) → r ≡ first_of es
first_is [] None h = refl
first_is [] (Some i) h = absurd (h.0 refl)
first_is (e ∷ es) None h = absurd cc
first_is (e ∷ es) (Some i) h = ap (λ (n : ℕ). Some n) h.1

pub last_is : (es : List EntryIndex) (r : Option ℕ) → MatchOption r (es ≡ []) (λ i. i + 1 ≡ end_of es) → r ≡ last_of es
unfolding end_of
last_is [] None h = refl
last_is [] (Some i) h = absurd (omega (arith, h))
last_is (e ∷ es) None h = absurd cc
last_is (e ∷ es) (Some i) h = ap (λ (n : ℕ). Some n) (omega (arith, h))
