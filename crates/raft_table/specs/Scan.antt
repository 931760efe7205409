-- Which pairs a scan visits, and what it does there.
use Rattle.std.specs.Prelude.{◌≡◌, ◌⊎◌, ℕ, Bool, true, ◌&&◌, List, [], ◌∷◌, Option, Some, None, filter, map, reverse, MatchBool, if◌then◌else◌}
use Rattle.std.specs.Ordering.{nat_cmp, is_lt, is_le}
use Rattle.std.specs.Cmp.Lexicographic.{slice_cmp}
use Rattle.std.specs.FinMap as finite
use Rattle.raft_table.specs.KeyValues.{Keys, key_value}

-- whether a key is at or above a bound, if there is one
abbrev pub is_from : Option (List ℕ) → List ℕ → Bool
is_from None key = true
is_from (Some start) key = is_le (slice_cmp nat_cmp start key)

-- whether a key is below a bound, if there is one
abbrev pub is_below : Option (List ℕ) → List ℕ → Bool
is_below None key = true
is_below (Some end) key = is_lt (slice_cmp nat_cmp key end)

-- whether a key is at or above the first bound and below the second
abbrev pub is_between : Option (List ℕ) → Option (List ℕ) → List ℕ → Bool
is_between start end key = is_from start key && is_below end key

-- whether the first bound isn't above the second
abbrev pub is_forward : Option (List ℕ) → Option (List ℕ) → Bool
is_forward (Some start) (Some end) = is_le (slice_cmp nat_cmp start end)
is_forward (Some start) None = true
is_forward None end = true

-- a bound stands either where keys are sought or where they are tested
abbrev pub IsDivided : Option (List ℕ) → Option (List ℕ) → Option (List ℕ) → Type 0
IsDivided bound sought tested = ((sought ≡ bound) × (tested ≡ None)) ⊎ ((sought ≡ None) × (tested ≡ bound))

-- the keys between two bounds with their values, in the order of the keys or reversed
abbrev pub pairs_between : Option (List ℕ) → Option (List ℕ) → Bool → Keys → List (List ℕ × List ℕ)
pairs_between start end reversed keys =
    let pairs = map key_value (filter (λ e. is_between start end e.0) (finite.entries keys)) in
    if reversed then reverse pairs else pairs

-- calls of f at the keys and their values in turn, until one answers false, take it to `last`
abbrev pub VisitsUntilFalse : {F : Type 0} → (F → List ℕ → List ℕ → Bool → F → Type 0) → F → List (List ℕ × List ℕ) → F → Type 0
VisitsUntilFalse calls f [] last = f ≡ last
VisitsUntilFalse {F} calls f (p ∷ ps) last = (answer : Bool) × (next : F) × calls f p.0 p.1 answer next × MatchBool answer (VisitsUntilFalse calls next ps last) (next ≡ last)
