-- Entries whose bytes end within their block, and places that stand in files.
use Rattle.std.specs.Prelude.{◌≡◌, ◌⊎◌, ℕ, ◌+◌, ◌-◌, ◌≤◌, List, [], ◌∷◌, IfSome, MatchOption, Some, length}
use Rattle.std.specs.FinMap as finite
use Rattle.std.specs.List.{AllByRecursion}
use Rattle.raft_base.specs.declared.entry_index.EntryIndex.{EntryIndex}
use Rattle.raft_base.specs.declared.pipe_log.FileBlockHandle.{FileBlockHandle}
use Rattle.raft_base.specs.declared.pipe_log.LogQueue.{LogQueue}
use Rattle.raft_base.specs.declared.pipe_log.LogQueue.TheVariants.{Append, Rewrite}
use Rattle.raft_base.specs.declared.pipe_log.Version.{Version}
use Rattle.raft_records.specs.Item.{Content, Item, command, entries, pair}
use Rattle.raft_table.specs.Steps.{table_of}
use Rattle.raft_history.specs.Batches.{Event}
use Rattle.raft_history.specs.BothQueues.{IsReadingOfBoth}
use Rattle.raft_history.specs.RegionSteps.{Tables}
use Rattle.raft_files.specs.Asks.{Act, Ask, Found, acts_on}
use Rattle.raft_files.specs.Disk.{IsLeftOf, NumberedBytes, begun, deletions}
use Rattle.raft_files.specs.Places.{bytes_at}
use Rattle.raft_recover.specs.Files.{FilesHold}
use Rattle.raft_engine_prefixes.specs.Done.{AreRisingFrom, numbers}
use Rattle.raft_engine_prefixes.specs.Prefixes.{ArePut}
use Rattle.raft_engine_prefixes.specs.TornTails.{FilesHoldTorn}

-- what is so of each entry of a content
abbrev pub EachEntryOf : (EntryIndex → Type 0) → Content → Type 0
EachEntryOf IsSo (entries es) = AllByRecursion IsSo es
EachEntryOf IsSo (command c) = Unit {0}
EachEntryOf IsSo (pair p) = Unit {0}

-- .. of items
abbrev pub EachEntryIn : (EntryIndex → Type 0) → List Item → Type 0
EachEntryIn IsSo items = AllByRecursion (λ (item : Item). EachEntryOf IsSo item.content) items

-- .. of batches
abbrev pub EachEntryAmong : (EntryIndex → Type 0) → List Event → Type 0
EachEntryAmong IsSo h = AllByRecursion (λ (e : Event). EachEntryIn IsSo e.items) h

-- an entry's bytes end within the block at its place
abbrev pub EndsWithin : EntryIndex → Type 0
EndsWithin e = IfSome e.entries (λ (place : FileBlockHandle). e.entry_offset + e.entry_len ≤ place.len)

-- so it is for each entry of batches: of all that engines wrote; of files that somebody else wrote nothing says so
abbrev pub EntriesEndWithin : List Event → Type 0
EntriesEndWithin h = EachEntryAmong EndsWithin h

-- so it is of all batches that are read of these files
abbrev pub FilesEndWithin : LogQueue → Version → List NumberedBytes → Type 0
FilesEndWithin queue version files = (h : List Event) → FilesHoldTorn queue version files h → EntriesEndWithin h

-- so it is of the files that were found when the machine started, if any were
abbrev pub FoundEndWithin : LogQueue → Version → List Act → Type 0
FoundEndWithin queue version [] = Unit {0}
FoundEndWithin queue version (Found files ∷ earlier) = FilesEndWithin queue version files
FoundEndWithin queue version (_ ∷ earlier) = FoundEndWithin queue version earlier

-- where it is so of the found files, it is of all that were found and begun, with the batches that were put there since
abbrev pub WrittenEndWithin : LogQueue → Version → List Act → Type 0
WrittenEndWithin queue version acts = FoundEndWithin queue version acts → FilesEndWithin queue version (begun acts)

-- bytes stand at a place in files of a queue
pub record PlaceStands (queue : LogQueue) (files : List NumberedBytes) (place : FileBlockHandle) : Type 0 where
  pub of_queue : place.id.queue ≡ queue
  pub block : List ℕ
  pub stands : bytes_at files place.id.seq place.offset place.len ≡ Some block
  pub whole : length block ≡ place.len

-- an entry has a place, and bytes stand there in files of a queue
abbrev pub StandsAt : LogQueue → List NumberedBytes → EntryIndex → Type 0
StandsAt queue files e = MatchOption e.entries ⊥ (λ (place : FileBlockHandle). PlaceStands queue files place)

-- so it is for each entry of batches
abbrev pub PlacesStand : LogQueue → List NumberedBytes → List Event → Type 0
PlacesStand queue files h = EachEntryAmong (StandsAt queue files) h

-- Where the entries of all batches of both queues end within their blocks, each entry of the tables that these are read as has a
-- place where bytes stand in the files, and ends within it.
abbrev pub EntriesOfTablesStand : Type 0
EntriesOfTablesStand =
    (version : Version) (n m : ℕ) (append rewrite : List NumberedBytes) (appended rewritten : List Event) (tables : Tables) (cleaned : List ℕ)
    → AreRisingFrom n (numbers append) → AreRisingFrom m (numbers rewrite) → FilesHold Append version append appended → FilesHold Rewrite version rewrite rewritten
    → EntriesEndWithin appended → EntriesEndWithin rewritten → IsReadingOfBoth rewritten appended tables cleaned
    → (r : ℕ) → AllByRecursion (λ (e : EntryIndex). EndsWithin e × (StandsAt Append append e ⊎ StandsAt Rewrite rewrite e)) (table_of r (finite.get tables r)).entries

-- where it is so of all files that were found and begun, of which the last one is never deleted, it is of those that a crash leaves
abbrev pub LeftFilesEndWithin : Type 0
LeftFilesEndWithin =
    (queue : LogQueue) (version : Version) (asked : List Ask) (synced h : List Event) (files : List NumberedBytes) → ArePut queue version (acts_on queue asked) synced h
    → deletions (acts_on queue asked) ≤ length (begun (acts_on queue asked)) - 1
    → FilesEndWithin queue version (begun (acts_on queue asked)) → IsLeftOf queue asked files → FilesEndWithin queue version files
