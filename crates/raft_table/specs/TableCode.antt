-- The code of tables, by which values of their type are told apart.
use Rattle.std.specs.Prelude.{ℕ, List, Option, refl}
use Rattle.std.specs.Coded.{Coded, code_by, coded×, coded_list, coded_option, coded_ℕ}
use Rattle.raft_base.specs.contracts.entry_index.EntryIndex as entry
use Rattle.raft_base.specs.declared.entry_index.EntryIndex.{EntryIndex}
use Rattle.raft_table.specs.KeyValueCode.{keys_code}
use Rattle.raft_table.specs.KeyValues.{Keys}
use Rattle.raft_table.specs.Table.{Table}

-- a table as its number and entries, and its key values and the file numbers of its atomic group
abbrev pub table_code : Coded Table
table_code =
    code_by ((ℕ × List EntryIndex) × (Keys × Option (ℕ × ℕ))) (coded× (coded× coded_ℕ (coded_list entry.the_row.coded)) (coded× keys_code (coded_option (coded× coded_ℕ coded_ℕ))))
    (λ t. ((t.region_id, t.entries), (t.keys, t.atomic_group))) (λ p. record { region_id = p.0.0; entries = p.0.1; keys = p.1.0; atomic_group = p.1.1 }) (λ _. refl)
