-- The records of regions, without places and files: entries by their index and contents, and key values; and what written batches make of them.
use Rattle.std.specs.Prelude.{◌≡◌, ℕ, List, [], ◌∷◌, ◌++◌, map, filter, flat_map, nat_lt, nat_le}
use Rattle.std.specs.Ordering.{nat_cmp}
use Rattle.std.specs.Cmp.Lexicographic.{slice_cmp}
use Rattle.std.specs.FinMap as finite
use Rattle.raft_base.specs.declared.entry_index.EntryIndex.{EntryIndex}
use Rattle.raft_records.specs.Item.{Content, entries, command, pair}
use Rattle.raft_table.specs.KeyValues.{value_at}
use Rattle.raft_table.specs.Steps.{Step, Run, Compact, Truncate, Put, Del, AtomicGroup, Clean, table_of}
use Rattle.raft_table.specs.Table.{Table}
use Rattle.raft_history.specs.Batches.{Event}
use Rattle.raft_history.specs.RegionSteps.{Tables, steps_of_items, steps_on}

-- an entry by its index and its contents
abbrev pub Entry : Type 0
Entry = ℕ × List ℕ

-- the records of one region: its entries in order, and the value under each key
pub record Records : Type 0 where
  pub entries : List Entry
  pub values : finite.FinMap (slice_cmp nat_cmp) (List ℕ)

-- no records
abbrev pub no_records : Records
no_records = record { entries = []; values = finite.empty }

-- entries by their indexes and contents, which are told by what stands at the place of each
abbrev pub entries_told : (EntryIndex → List ℕ) → List EntryIndex → List Entry
entries_told content es = map (λ e. (e.index, content e)) es

-- ---- what is written

-- a region's records after a step: a run stands behind the entries below its first index, a compaction keeps those from its index on, a truncation those below it, and a Clean nothing
abbrev pub after_change : (EntryIndex → List ℕ) → Records → Step → Records
after_change content rs (Run []) = rs
after_change content rs (Run (e ∷ run)) = record rs { entries = filter (λ x. nat_lt x.0 e.index) rs.entries ++ entries_told content (e ∷ run) }
after_change content rs (Compact i) = record rs { entries = filter (λ x. nat_le i x.0) rs.entries }
after_change content rs (Truncate i) = record rs { entries = filter (λ x. nat_lt x.0 i) rs.entries }
after_change content rs (Put key value file) = record rs { values = finite.insert rs.values key value }
after_change content rs (Del key) = record rs { values = finite.remove rs.values key }
after_change content rs (AtomicGroup first_seq last_seq) = rs
after_change content rs Clean = no_records

-- a region's records after steps in order
abbrev pub after_changes : (EntryIndex → List ℕ) → Records → List Step → Records
after_changes content rs [] = rs
after_changes content rs (s ∷ ss) = after_changes content (after_change content rs s) ss

-- no region has records
abbrev pub no_base : ℕ → Records
no_base r = no_records

-- the records of a region after these batches, from those that it had before
unfoldable pub live : (EntryIndex → List ℕ) → (ℕ → Records) → List Event → ℕ → Records
live content base h r = after_changes content (base r) (steps_on r (flat_map (λ e. steps_of_items e.items) h))

-- contents are told alike of the entries of an item
abbrev pub AreToldAlike : (EntryIndex → List ℕ) → (EntryIndex → List ℕ) → Content → Type 0
AreToldAlike told content (entries es) = entries_told told es ≡ entries_told content es
AreToldAlike told content (command c) = Unit {0}
AreToldAlike told content (pair p) = Unit {0}

-- ---- what tables have

-- a table has these records
pub record HasRecords (content : EntryIndex → List ℕ) (t : Table) (rs : Records) : Type 0 where
  pub entries : entries_told content t.entries ≡ rs.entries
  pub values : (key : List ℕ) → value_at t.keys key ≡ finite.get rs.values key

-- each region's table has the region's records; an absent one has none
abbrev pub HaveRecords : (EntryIndex → List ℕ) → Tables → (ℕ → Records) → Type 0
HaveRecords content tables records = (r : ℕ) → HasRecords content (table_of r (finite.get tables r)) (records r)
