-- The tables of one slot, in a hash map, as their contracts see them.
use Rattle.std.specs.Prelude.{◌≡◌, ℕ, nat_eq, Some}
use Rattle.std.specs.Map.{lookup}
use Rattle.std.specs.FinMap as finite
use Rattle.raft_table.specs.Table.{Table}
use Rattle.raft_accessor.specs.declared.region_tables.RegionTables.TheInside.{Inside}
use Rattle.raft_history.specs.RegionSteps.{Tables}

-- the tables as a map
abbrev pub tables_shown : Inside → Tables
tables_shown a = finite.from_entries a.tables.entries

-- each table stands under its own region
abbrev pub AreTablesKept : Inside → Type 0
AreTablesKept a = (q : ℕ) (t : Table) → lookup (nat_eq q) a.tables.entries ≡ Some t → t.region_id ≡ q
