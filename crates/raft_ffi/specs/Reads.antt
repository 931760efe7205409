-- What the readers of tables find.
use Rattle.std.specs.Prelude.{◌≡◌, ℕ, Bool, List, [], map, Option}
use Rattle.std.specs.FinMap as finite
use Rattle.std.specs.Option.{option_and_then}
use Rattle.std.specs.List.Sorted.{IsPermutation, IsNonDecreasing}
use Rattle.raft_accessor.specs.Accessor.{Accessor, table_in}
use Rattle.raft_base.specs.declared.entry_index.EntryIndex.{EntryIndex}
use Rattle.raft_history.specs.RegionSteps.{Tables}
use Rattle.raft_table.specs.Fetches.{Fetches, range_answer}
use Rattle.raft_table.specs.KeyValues.{value_at}
use Rattle.raft_table.specs.TableEntries.{entry_at}
use Rattle.raft_ffi.specs.Calls.{IsFound}
use Rattle.raft_ffi.specs.EntryData.{entry_found}
use Rattle.raft_ffi.specs.declared.entries.Entry.{Entry}
use Rattle.raft_ffi.specs.declared.table_reads.Summary.{Summary}
use Rattle.raft_ffi.specs.Rooms.{IsCopied, AreEntriesIn}
use Rattle.raft_ffi.specs.Summaries.{IsSummaryOf}

-- the regions of all tables, in rising order
pub record AreRegionsOf (tables : Tables) (regions : List ℕ) : Type 0 where
  pub all : IsPermutation regions (map (λ t. t.region_id) (finite.values tables))
  pub rising : IsNonDecreasing regions

-- the regions of all tables were found, in rising order
pub record AreRegionsIn (tables : Tables) (old new : List ℕ) (count : ℕ) : Type 0 where
  pub regions : List ℕ
  pub of_tables : AreRegionsOf tables regions
  pub copied : IsCopied regions old new count

-- the entries of a range were found, from the first on and within a maximal size
pub record IsFetched (limit : Option ℕ) (begin end : ℕ) (entries : List EntryIndex) (old new : List Entry) (count : ℕ) : Type 0 where
  pub found : List EntryIndex
  pub fetched : Fetches limit begin end entries [] found (range_answer begin end entries)
  pub copied : AreEntriesIn found old new count

-- a region's table was found, if it has one, and these are its numbers
abbrev pub IsSummaryIn : ℕ → Bool → Summary → Accessor → Type 0
IsSummaryIn region found summary a = IsFound (λ t. IsSummaryOf t summary) (finite.get a.tables region) found

-- an entry of a region was found, if its table has one of this index
abbrev pub IsEntryIn : ℕ → ℕ → Bool → Entry → Accessor → Type 0
IsEntryIn region index found entry a = entry_found found entry ≡ entry_at index (table_in a.tables region).entries

-- the value of a region's key, if the region has a table and that the key
abbrev pub value_in : Tables → ℕ → List ℕ → Option (List ℕ)
value_in tables region key = option_and_then (λ t. value_at t.keys key) (finite.get tables region)

-- the value of a region's key was found, if there is one
abbrev pub IsValueIn : ℕ → List ℕ → Bool → List ℕ → List ℕ → ℕ → Accessor → Type 0
IsValueIn region key found old new len a = IsFound (λ bytes. IsCopied bytes old new len) (value_in a.tables region key) found
