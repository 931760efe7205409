-- Tables whose places were rewritten, beside those that reading the append queue gives.
use Rattle.std.specs.Prelude.{◌≡◌, ◌⊎◌, ℕ, true, List, [], ◌∷◌, Option, Some, None}
use Rattle.std.specs.FinMap as finite
use Rattle.std.specs.List.{AllByRecursion}
use Rattle.raft_base.specs.declared.entry_index.EntryIndex.{EntryIndex}
use Rattle.raft_base.specs.declared.pipe_log.LogQueue.TheVariants.{Append, Rewrite}
use Rattle.raft_base.specs.Runs.{IsRun}
use Rattle.raft_records.specs.Item.{Item}
use Rattle.raft_table.specs.KeyValues.{Stored}
use Rattle.raft_table.specs.Steps.{table_of}
use Rattle.raft_table.specs.Table.{Table}
use Rattle.raft_table.specs.TableEntries.{is_placed_in}
use Rattle.raft_history.specs.Batches.{Event}
use Rattle.raft_history.specs.Histories.{IsSoundIn, IsOneReading}
use Rattle.raft_history.specs.RegionSteps.{Tables}
use Rattle.raft_accessor.specs.Writes.{Appending, Replaying, Rewriting, after_items, IsFor}

-- a kept entry is the one that is read, or has its index and a place in the rewrite queue
abbrev pub IsMovedEntry : EntryIndex → EntryIndex → Type 0
IsMovedEntry kept e = (kept.index ≡ e.index) × ((kept ≡ e) ⊎ (is_placed_in Rewrite kept ≡ true))

-- as many entries, each for one that is read
abbrev pub AreMovedEntries : List EntryIndex → List EntryIndex → Type 0
AreMovedEntries [] [] = Unit {0}
AreMovedEntries (k ∷ kept) (e ∷ es) = IsMovedEntry k e × AreMovedEntries kept es
AreMovedEntries [] (e ∷ es) = ⊥
AreMovedEntries (k ∷ kept) [] = ⊥

-- a kept pair has the value of the one that is read, and its file or one of the rewrite queue; there is none exactly where none is read
abbrev pub IsMovedPair : Option Stored → Option Stored → Type 0
IsMovedPair None None = Unit {0}
IsMovedPair (Some k) (Some s) = (k.value ≡ s.value) × ((k.file ≡ s.file) ⊎ (k.file.queue ≡ Rewrite))
IsMovedPair None (Some s) = ⊥
IsMovedPair (Some k) None = ⊥

-- a kept table has the entries and the key values of the one that is read, but for their places and files; its atomic group may be any
pub record IsMovedTable (kept t : Table) : Type 0 where
  pub entries : AreMovedEntries kept.entries t.entries
  pub pairs : (key : List ℕ) → IsMovedPair (finite.get kept.keys key) (finite.get t.keys key)

-- each region's kept table has the entries and key values of the one that is read, but for places and files, and nothing is said of atomic groups; where none is kept none is read, and where none is read a kept one has no records
pub record AreMovedTables (kept tables : Tables) : Type 0 where
  pub each : (r : ℕ) → IsMovedTable (table_of r (finite.get kept r)) (table_of r (finite.get tables r))
  pub present : (r : ℕ) → finite.get kept r ≡ None → finite.get tables r ≡ None

-- the entries of each table have indexes without gaps
pub record AreRuns (tables : Tables) : Type 0 where
  pub each : (r : ℕ) → IsRun (table_of r (finite.get tables r)).entries

-- ---- what is promised of them

-- new items that kept tables accept are accepted by the tables that are read, when they are read again
abbrev pub AppendedItemsFollow : Type 0
AppendedItemsFollow =
    (kept tables new : Tables) (items : List Item) → AreMovedTables kept tables → after_items Appending kept items ≡ Some new
    → (later : Tables) × (after_items (Replaying Append) tables items ≡ Some later) × AreMovedTables new later

-- a rewriting of kept tables leaves them as those that are read, but for places and files
abbrev pub RewritingMovesPlaces : Type 0
RewritingMovesPlaces =
    (gate : Option ℕ) (seq : ℕ) (kept tables new : Tables) (items : List Item) → AreMovedTables kept tables → AreRuns tables
    → AllByRecursion (λ (item : Item). IsFor (Rewriting gate seq) item.content) items
    → after_items (Rewriting gate seq) kept items ≡ Some new → AreMovedTables new tables

-- items that are read again leave runs
abbrev pub ReadItemsLeaveRuns : Type 0
ReadItemsLeaveRuns =
    (tables later : Tables) (items : List Item) → AreRuns tables → AllByRecursion (λ (item : Item). IsFor Appending item.content) items
    → after_items (Replaying Append) tables items ≡ Some later → AreRuns later

-- one reading of a sound history of the append queue leaves runs
abbrev pub ReadingLeavesRuns : Type 0
ReadingLeavesRuns =
    (h : List Event) (tables : Tables) (cleaned : List ℕ) → IsSoundIn Append h → IsOneReading Append h tables cleaned → AreRuns tables
