-- Regions by rising number, as text.
use Rattle.raft_plain.proofs.Common.{◌≡◌, ◌≤◌, ◌<◌, List, [], ◌∷◌, ℕ, refl, sym, ap, subst, ◌∙◌, map, arith, All-from_recursion, IsNonDecreasingBy-insert, IsNonDecreasingBy-short, IsPermutation-refl, sorted_head, sorted_tail, ranked, AllByRecursion, IsNonDecreasingBy}
use Rattle.raft_plain.proofs.Common.{IsPermutation, keys_of, nat_cmp, Less, Table, Region, table_shown, tables_in}
use Rattle.std.specs.FinMap as finite
use Rattle.raft_plain.proofs.KeyedLemmas.{Rises, entries-of}

abbrev pub tables_of : List (ℕ × Region) → List Table
tables_of es = map (λ e. table_shown e.0 e.1) es

above : (k : ℕ) (es : List (ℕ × Region)) → AllByRecursion (λ y. nat_cmp k y ≡ Less) (keys_of es) → AllByRecursion (λ (t : Table). k ≤ t.region_id) (tables_of es)
above k [] h = tt
above k (e ∷ es) h = (let less : k < e.0 = ranked k e.0 Less (sym h.0) in omega (arith, less), above k es h.1)

pub tables_rise : (es : List (ℕ × Region)) → Rises table_shown es → IsNonDecreasingBy (λ (t : Table). t.region_id) (tables_of es)
tables_rise [] h = IsNonDecreasingBy-short (λ (t : Table). t.region_id) [] (omega arith)
tables_rise (e ∷ es) h =
    IsNonDecreasingBy-insert (λ (t : Table). t.region_id) (tables_of es) 0 (table_shown e.0 e.1) (tables_rise es (sorted_tail nat_cmp _ _ h)) (omega arith)
    (λ k d low. absurd (omega (arith, low)))
    (λ k d past low. All-from_recursion (λ (t : Table). e.0 ≤ t.region_id) (tables_of es) (above e.0 es (sorted_head nat_cmp _ _ h)) k d low)

values_in : (es : List (ℕ × Region)) → map (λ (e : ℕ × Table). e.1) (map (λ e. (e.0, table_shown e.0 e.1)) es) ≡ tables_of es
values_in [] = refl
values_in (e ∷ es) = ap (λ l. table_shown e.0 e.1 ∷ l) (values_in es)

pub tables_are_all : (es : List (ℕ × Region)) → Rises table_shown es → IsPermutation (tables_of es) (finite.values (tables_in es))
tables_are_all es h = subst (IsPermutation (tables_of es)) (sym (ap (map (λ (e : ℕ × Table). e.1)) (entries-of table_shown es h) ∙ values_in es)) (IsPermutation-refl (tables_of es))
