-- The tables of all regions as text: a line for each table, one of the cleaned regions, and one of the live counts.
use Rattle.std.specs.Prelude.{◌≡◌, ℕ, List, [], ◌∷◌, ◌++◌, codes, Option, Some, None}
use Rattle.std.specs.FinMap as finite
use Rattle.std.specs.Fmt.{decimal}
use Rattle.std.specs.Io.KnownBytes.{Appends}
use Rattle.std.specs.List.{flat_map}
use Rattle.std.specs.List.Sorted.{IsPermutation, IsNonDecreasingBy}
use Rattle.raft_base.specs.declared.pipe_log.LogQueue.TheVariants.{Append, Rewrite}
use Rattle.raft_base.specs.declared.entry_index.EntryIndex.{EntryIndex}
use Rattle.raft_base.specs.Runs.{end_of}
use Rattle.raft_records.specs.Lines.{AppendsFront}
use Rattle.raft_history.specs.RegionSteps.{Tables}
use Rattle.raft_accessor.specs.Accessor.{Accessor}
use Rattle.raft_table.specs.Counts.{Counts, live}
use Rattle.raft_table.specs.TableEntries.{start_of}
use Rattle.raft_table.specs.Least.{least_of}
use Rattle.raft_table.specs.Table.{Table}

-- the first index of entries and the one past the last, `-` where there are none
abbrev pub range_text : List EntryIndex → List ℕ
range_text [] = codes "-"
range_text (e ∷ es) = decimal (start_of (e ∷ es)) ++ codes ".." ++ decimal (end_of (e ∷ es))

-- the number of a file, `-` where there is none
abbrev pub seq_text : Option ℕ → List ℕ
seq_text None = codes "-"
seq_text (Some seq) = decimal seq

-- the line of a table: its region, its entries, how many keys it has, and its least file in each queue
abbrev pub table_line : Table → List ℕ
table_line t =
    decimal t.region_id ++ codes " entries " ++ range_text t.entries ++ codes " keys " ++ decimal (finite.len t.keys) ++ codes " append " ++ seq_text (least_of Append t) ++ codes " rewrite " ++ seq_text (least_of Rewrite t) ++ codes "\n"

-- a region's id after a space
abbrev pub region_text : ℕ → List ℕ
region_text id = codes " " ++ decimal id

-- cleaned regions in order, `-` where there are none
abbrev pub cleaned_text : List ℕ → List ℕ
cleaned_text [] = codes " -"
cleaned_text (id ∷ ids) = flat_map region_text (id ∷ ids)

-- the line of the cleaned regions
abbrev pub cleaned_line : List ℕ → List ℕ
cleaned_line ids = codes "cleaned" ++ cleaned_text ids ++ codes "\n"

-- the line of the live counts, first of the append queue, then of the rewrite queue
abbrev pub live_line : Counts → List ℕ
live_line counts = codes "live " ++ decimal (live Append counts) ++ codes " " ++ decimal (live Rewrite counts) ++ codes "\n"

-- all tables, by rising region
pub record AreByRegion (tables : Tables) (ts : List Table) : Type 0 where
  pub all : IsPermutation ts (finite.values tables)
  pub rising : IsNonDecreasingBy (λ t. t.region_id) ts

-- the lines of all tables by rising region, of the cleaned regions, and of the live counts
pub record IsTextOfTables (accessor : Accessor) (text : List ℕ) : Type 0 where
  pub tables : List Table
  pub by_region : AreByRegion accessor.tables tables
  pub lines : text ≡ (flat_map table_line tables ++ cleaned_line accessor.cleaned) ++ live_line accessor.counts

-- the text was written after the old bytes, where those are known
pub record PrintsTables (accessor : Accessor) (old new : Option (List ℕ)) : Type 0 where
  pub text : List ℕ
  pub of_tables : IsTextOfTables accessor text
  pub written : Appends old new text

-- a front of the text, and not all of it, was written after the old bytes, where those are known
pub record PrintsFrontOfTables (accessor : Accessor) (old new : Option (List ℕ)) : Type 0 where
  pub text : List ℕ
  pub of_tables : IsTextOfTables accessor text
  pub written : AppendsFront old new text
