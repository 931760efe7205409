-- Plain maps and lists as the tables that they are.
use Rattle.std.specs.Prelude.{ℕ, List, map}
use Rattle.std.specs.Ordering.{nat_cmp}
use Rattle.std.specs.FinMap as finite
use Rattle.std.specs.BTreeMap.{BTreeMap}
use Rattle.std.specs.declared.alloc.Global.{Global}
use Rattle.std.specs.declared.vec.Vec.{Vec}
use Rattle.raft_table.specs.KeyValues.{Keys}
use Rattle.raft_table.specs.KeyValues as table
use Rattle.raft_table.specs.Table.{Table}
use Rattle.raft_plain.specs.declared.region.Region.{Region}
use Rattle.raft_plain.specs.declared.region.Stored.{Stored}

-- what is stored, by its bytes
abbrev pub stored_shown : Stored → table.Stored
stored_shown s = record { value = s.value.items; file = s.file }

-- key values, by the bytes of their keys
abbrev pub keys_shown : BTreeMap (Vec ℕ Global) Stored → Keys
keys_shown m = finite.from_sorted (map (λ e. (e.0.items, stored_shown e.1)) m.entries)

-- the records of a region as its table
abbrev pub table_shown : ℕ → Region → Table
table_shown id r = record { region_id = id; entries = r.entries.items; keys = keys_shown r.keys; atomic_group = r.group }

-- the tables of regions, each under its region
abbrev pub tables_in : List (ℕ × Region) → finite.FinMap nat_cmp Table
tables_in es = finite.from_sorted (map (λ e. (e.0, table_shown e.0 e.1)) es)

-- the tables of all regions
abbrev pub tables_shown : BTreeMap ℕ Region → finite.FinMap nat_cmp Table
tables_shown m = tables_in m.entries
