-- How many records tables and waiting groups hold.
use Rattle.std.specs.Prelude.{ℕ, ◌+◌, List, [], ◌∷◌, length, Option, Some, None}
use Rattle.std.specs.Ordering.{nat_cmp}
use Rattle.std.specs.FinMap as finite
use Rattle.raft_table.specs.Table.{Table}
use Rattle.raft_history.specs.Histories.{records_in}
use Rattle.raft_history.specs.RegionSteps.{Tables}
use Rattle.raft_history.specs.WaitingGroup.{WaitingGroup, WholeGroup}
use Rattle.raft_history.specs.WaitingGroups.{WaitingGroups, held_steps}

-- a number of each value of some pairs, added up
abbrev pub total_of : {X : Type 0} → (X → ℕ) → List (ℕ × X) → ℕ
total_of f [] = 0
total_of f (e ∷ es) = f e.1 + total_of f es

-- a number of each value of a map, added up
unfoldable pub total : {X : Type 0} → (X → ℕ) → finite.FinMap nat_cmp X → ℕ
total f m = total_of f (finite.entries m)

-- the entries and key values of a table
abbrev pub table_records : Table → ℕ
table_records t = length t.entries + finite.len t.keys

-- the entries and key values of all tables
abbrev pub all_records : Tables → ℕ
all_records tables = total table_records tables

-- the entries and key values that the steps of waiting groups name
abbrev pub waiting_records : WaitingGroups → ℕ
waiting_records groups = total (λ (g : WaitingGroup). records_in (held_steps g)) groups

-- the entries and key values that a group names, if it is whole
abbrev pub records_or : Option WholeGroup → ℕ
records_or None = 0
records_or (Some w) = records_in w.steps

-- the entries and key values that whole groups name, together
abbrev pub records_in_wholes : List WholeGroup → ℕ
records_in_wholes [] = 0
records_in_wholes (w ∷ ws) = records_in w.steps + records_in_wholes ws
