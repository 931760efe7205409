-- The regions of all tables.
use Rattle.raft_engine.proofs.Common.{◌≡◌, ℕ, List, [], ◌∷◌, map, IsPermutation, IfOk, Result, Ok, Err, Vec, refl, sym, ap, subst, ◌∙◌, IsPermutation-map, Global, Tables, Table, AreRegions}
use Rattle.std.specs.FinMap as finite

ids_twice : {R : Type 0} (now : R → Table) (refs : List R) → map (λ (t : R). (now t).region_id) refs ≡ map (λ (t : Table). t.region_id) (map now refs)
ids_twice now [] = refl
ids_twice now (r ∷ refs) = ap (λ l. (now r).region_id ∷ l) (ids_twice now refs)

pub are_regions : {R E : Type 0} (now : R → Table) (refs seen : List R) (tables : Tables) (r : Result (Vec ℕ Global) E) → seen ≡ refs → IsPermutation (map now refs) (finite.values tables)
    → IfOk r (λ ids. ids.items ≡ map (λ (t : R). (now t).region_id) seen) → IfOk r (λ ids. AreRegions tables ids.items)
are_regions now refs seen tables (Ok ids) e p is =
    subst (λ (l : List ℕ). IsPermutation l (map (λ (t : Table). t.region_id) (finite.values tables))) (sym (is ∙ ap (map (λ t. (now t).region_id)) e ∙ ids_twice now refs))
    (IsPermutation-map (λ (t : Table). t.region_id) (map now refs) (finite.values tables) p)
are_regions now refs seen tables (Err x) e p is = tt
