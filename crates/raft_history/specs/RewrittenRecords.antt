-- Records of the rewrite queue that the append queue had: what both queues give together where the append queue has all its batches.
use Rattle.std.specs.Prelude.{◌≡◌, ℕ, List, ◌++◌, Some}
use Rattle.std.specs.List.{AllByRecursion}
use Rattle.std.specs.FinMap as finite
use Rattle.raft_base.specs.declared.entry_index.EntryIndex.{EntryIndex}
use Rattle.raft_base.specs.declared.pipe_log.LogQueue.TheVariants.{Append}
use Rattle.raft_table.specs.KeyValues.{Stored}
use Rattle.raft_table.specs.Steps.{Step, Run, Put, table_of}
use Rattle.raft_table.specs.TableEntries.{entry_at}
use Rattle.raft_history.specs.Batches.{Event}
use Rattle.raft_history.specs.Histories.{IsOneReading, cleaned_in}
use Rattle.raft_history.specs.RegionSteps.{RegionStep, Tables, steps_of_items}

-- tables that the append queue had at some time: those of one reading of a front of its batches
pub record HadTables (append : List Event) (tables : Tables) : Type 0 where
  pub front : List Event
  pub back : List Event
  pub split : append ≡ front ++ back
  pub read : IsOneReading Append front tables (cleaned_in Append front)

-- at some time the append queue had an entry of the region at this index
pub record HadEntry (append : List Event) (region index : ℕ) : Type 0 where
  pub tables : Tables
  pub had : HadTables append tables
  pub entry : EntryIndex
  pub there : entry_at index (table_of region (finite.get tables region)).entries ≡ Some entry

-- at some time the append queue had a value under this key of the region
pub record HadKey (append : List Event) (region : ℕ) (key : List ℕ) : Type 0 where
  pub tables : Tables
  pub had : HadTables append tables
  pub stored : Stored
  pub there : finite.get (table_of region (finite.get tables region)).keys key ≡ Some stored

-- the records of a step on a region are such as the append queue had: an entry at the index of each entry of a run, and a value under the key of a put
abbrev pub IsStepHad : List Event → ℕ → Step → Type 0
IsStepHad append region (Run run) = AllByRecursion (λ (e : EntryIndex). HadEntry append region e.index) run
IsStepHad append region (Put key value file) = HadKey append region key
IsStepHad append region _ = Unit {0}

-- each record of the rewrite queue's batches is one that the append queue had
pub record AreRewrittenFrom (append rewrite : List Event) : Type 0 where
  pub each : AllByRecursion (λ (e : Event). AllByRecursion (λ (s : RegionStep). IsStepHad append s.region s.step) (steps_of_items e.items)) rewrite

-- tables with the same entries and key values, places and files too; of their atomic groups nothing is said, and an absent table counts as one without records
pub record HaveSameRecords (a b : Tables) : Type 0 where
  pub entries : (r : ℕ) → (table_of r (finite.get a r)).entries ≡ (table_of r (finite.get b r)).entries
  pub keys : (r : ℕ) → (table_of r (finite.get a r)).keys ≡ (table_of r (finite.get b r)).keys
