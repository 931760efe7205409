-- Where the entries of regions begin and end after new items, as their test keeps it.
use Rattle.std.specs.Prelude.{◌≡◌, ◌+◌, ◌↔◌, ℕ, false, List, [], ◌∷◌, map, length, nat_eq, Option, Some, None}
use Rattle.std.specs.Map.{lookup}
use Rattle.std.specs.FinMap as finite
use Rattle.raft_base.specs.declared.compression_type.CompressionType.{CompressionType}
use Rattle.raft_base.specs.declared.entry_index.EntryIndex.{EntryIndex}
use Rattle.raft_base.specs.declared.errors.Error.{Error}
use Rattle.raft_base.specs.declared.errors.Error.TheVariants as errors
use Rattle.raft_base.specs.declared.pipe_log.FileBlockHandle.{FileBlockHandle}
use Rattle.raft_base.specs.declared.pipe_log.LogQueue.TheVariants.{Append}
use Rattle.raft_base.specs.Runs.{RisesFrom}
use Rattle.raft_records.specs.declared.command.Command.{Command}
use Rattle.raft_records.specs.declared.command.Command.TheVariants as commands
use Rattle.raft_records.specs.declared.key_value.OpType.{OpType}
use Rattle.raft_records.specs.declared.key_value.OpType.TheVariants as operations
use Rattle.raft_records.specs.Group.{is_reserved}
use Rattle.raft_records.specs.Item.{Content, Item, Pair}
use Rattle.raft_records.specs.ItemBatch.{placed_content, placed_item}
use Rattle.raft_history.specs.RegionSteps.{Tables, with_table}
use Rattle.raft_table.specs.Start.{entries_after_append}
use Rattle.raft_table.specs.TableEntries.{IsRunIn, below, from}
use Rattle.raft_table.specs.Table.{Table}
use Rattle.raft_accessor.specs.Accessor.{table_in}
use Rattle.raft_accessor.specs.AppendChecks.{AreAccepted}
use Rattle.raft_accessor.specs.Writes.{Appending, after_content, IsFor}
use Rattle.raft_accessor.specs.declared.append_check.Extent.{Extent}
use Rattle.raft_accessor.specs.declared.known_extents.KnownExtents.{KnownExtents}

-- entries at this place, compressed so
abbrev pub placed_entries : FileBlockHandle → CompressionType → List EntryIndex → List EntryIndex
placed_entries place compression es = map (λ (e : EntryIndex). record e { entries = Some place; compression_type = compression }) es

-- consecutive entries begin and end so; both are 0 where there are none
pub record IsExtentOf (extent : Extent) (es : List EntryIndex) : Type 0 where
  pub rising : RisesFrom extent.first es
  pub ends : extent.end ≡ extent.first + length es
  pub nothing : length es ≡ 0 → extent.first ≡ 0

-- the entries after a command
abbrev pub commanded : Command → List EntryIndex → List EntryIndex
commanded commands.Clean es = []
commanded (commands.Compact index) es = from index es
commanded (commands.Truncate index) es = below index es

-- a run is accepted wherever in the append queue it gets its place, and the entries then begin and end so
abbrev pub TakesRun : Extent → List EntryIndex → Extent → Type 0
TakesRun before run after =
    (es : List EntryIndex) (place : FileBlockHandle) (compression : CompressionType) → IsExtentOf before es → place.id.queue ≡ Append
    → IsRunIn Append (placed_entries place compression run) × (new : List EntryIndex) × (entries_after_append es (placed_entries place compression run) ≡ Some new) × IsExtentOf after new

-- why a run is refused: it isn't one, or the start rule refuses it; or want of memory
abbrev pub IsRunCheckFault : Extent → List EntryIndex → Error → Type 0
IsRunCheckFault before run (errors.Corruption text) =
    (es : List EntryIndex) (place : FileBlockHandle) (compression : CompressionType) → IsExtentOf before es
    → IsRunIn Append (placed_entries place compression run) → entries_after_append es (placed_entries place compression run) ≡ None
IsRunCheckFault before run errors.Memory = Unit {0}
IsRunCheckFault before run _ = ⊥

-- the first region is this one, or there is none yet
abbrev pub IsFirst : ℕ → Option (ℕ × Extent) → Type 0
IsFirst id None = Unit {0}
IsFirst id (Some first) = first.0 ≡ id

-- what is kept of the first region, if there is one, and of the others
abbrev pub first_and_others : Option (ℕ × Extent) → List (ℕ × Extent) → List (ℕ × Extent)
first_and_others None others = others
first_and_others (Some first) others = first ∷ others

-- what is kept of all regions
abbrev pub known_extents : KnownExtents → List (ℕ × Extent)
known_extents k = first_and_others k.first k.others.entries

-- what is known of a region's entries: where they begin and end, or that they are as they were
abbrev pub IsKnown : Option Extent → List EntryIndex → List EntryIndex → Type 0
IsKnown None before now = now ≡ before
IsKnown (Some extent) before now = IsExtentOf extent now

-- what is known of the entries of all regions
abbrev pub AreKnown : List (ℕ × Extent) → Tables → Tables → Type 0
AreKnown extents before now = (r : ℕ) → IsKnown (lookup (nat_eq r) extents) (table_in before r).entries (table_in now r).entries

-- a region's table in front of all items, and what is known of all entries after those so far
pub record AreBefore (extents : List (ℕ × Extent)) (id : ℕ) (table : Option Table) (before now : Tables) : Type 0 where
  pub own : finite.get before id ≡ table
  pub known : AreKnown extents before now

-- the next content is accepted at these tables, and this is then known
pub record IsNextTaken (id : ℕ) (content : Content) (before now : Tables) (extents : List (ℕ × Extent)) : Type 0 where
  pub asked : IsFor Appending content
  pub table : Option Table
  pub taken : after_content Appending id (finite.get now id) content ≡ Some table
  pub known : AreKnown extents before (with_table now id table)

-- the next item is accepted wherever in the append queue it gets its place
abbrev pub TakesNext : List (ℕ × Extent) → Option Table → Item → List (ℕ × Extent) → Type 0
TakesNext old table item new =
    (before now : Tables) (place : FileBlockHandle) (compression : CompressionType) → AreBefore old item.raft_group_id table before now → place.id.queue ≡ Append
    → IsNextTaken item.raft_group_id (placed_content place compression item.content) before now new

-- why the next item is refused: it isn't as asked, or its change is refused; or want of memory
abbrev pub IsNextFault : List (ℕ × Extent) → Option Table → Item → Error → Type 0
IsNextFault old table item (errors.Corruption text) =
    (before now : Tables) (place : FileBlockHandle) (compression : CompressionType) → AreBefore old item.raft_group_id table before now
    → IsFor Appending (placed_content place compression item.content) → after_content Appending item.raft_group_id (finite.get now item.raft_group_id) (placed_content place compression item.content) ≡ None
IsNextFault old table item errors.Memory = Unit {0}
IsNextFault old table item _ = ⊥

-- a put has a value
abbrev pub HasValue : OpType → Option (List ℕ) → Type 0
HasValue operations.Put None = ⊥
HasValue operations.Put (Some value) = Unit {0}
HasValue operations.Del value = Unit {0}

-- a change of a key is skipped, or has what it needs
abbrev pub IsPairAccepted : Pair → Type 0
IsPairAccepted p = is_reserved p.key ≡ false → HasValue p.op_type p.value

-- why a change of a key is refused: it is a put without value; or want of memory
abbrev pub IsPairCheckFault : Pair → Error → Type 0
IsPairCheckFault p (errors.Corruption text) = (is_reserved p.key ≡ false) × (HasValue p.op_type p.value → ⊥)
IsPairCheckFault p errors.Memory = Unit {0}
IsPairCheckFault p _ = ⊥

-- some of the items were tested and accepted, and these are left: there are tables, of which this is known, that accept those that are left exactly if the tables in front of all items accept all of them
pub record AreChecked (extents : List (ℕ × Extent)) (before : Tables) (items left : List Item) (place : FileBlockHandle) (compression : CompressionType) : Type 0 where
  pub now : Tables
  pub known : AreKnown extents before now
  pub same : AreAccepted now (map (placed_item place compression) left) ↔ AreAccepted before (map (placed_item place compression) items)
