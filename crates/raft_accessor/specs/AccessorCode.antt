-- The code of accessors, by which values of their type are told apart.
use Rattle.std.specs.Prelude.{ℕ, List, refl}
use Rattle.std.specs.Coded.{Coded, code_by, coded×, coded_list, coded_ℕ}
use Rattle.std.specs.FinMap as finite
use Rattle.raft_table.specs.Counts.{Counts}
use Rattle.raft_table.specs.TableCode.{table_code}
use Rattle.raft_accessor.specs.Accessor.{Accessor}
use Rattle.raft_history.specs.RegionSteps.{Tables}

-- tables as the list of their entries
abbrev pub tables_code : Coded Tables
tables_code = finite.code coded_ℕ table_code

-- counts as their three numbers
abbrev pub counts_code : Coded Counts
counts_code = code_by (ℕ × (ℕ × ℕ)) (coded× coded_ℕ (coded× coded_ℕ coded_ℕ)) (λ c. (c.append, (c.written, c.deleted))) (λ p. record { append = p.0; written = p.1.0; deleted = p.1.1 }) (λ _. refl)

-- an accessor as its tables, its cleaned regions and its counts
abbrev pub accessor_code : Coded Accessor
accessor_code = code_by (Tables × (List ℕ × Counts)) (coded× tables_code (coded× (coded_list coded_ℕ) counts_code)) (λ r. (r.tables, (r.cleaned, r.counts))) (λ p. record { tables = p.0; cleaned = p.1.0; counts = p.1.1 }) (λ _. refl)
