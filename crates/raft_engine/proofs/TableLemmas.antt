-- A region without a table.
use Rattle.raft_engine.proofs.Common.{◌≡◌, ℕ, List, Option, Some, None, option_map, sym, ap, slice_cmp, nat_cmp, value_at, table_of, Table}
use Rattle.std.specs.FinMap as finite

-- it has no values
pub no_value : (o : Option Table) (region : ℕ) (key : List ℕ) → None ≡ o → None ≡ value_at (table_of region o).keys key
no_value None region key e = ap (option_map (λ s. s.value)) (sym (finite.get-empty (slice_cmp nat_cmp) key))
no_value (Some t) region key e = absurd cc
