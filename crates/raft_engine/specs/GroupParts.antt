-- Parts of a region's entries, each for one batch of an atomic group.
use Rattle.std.specs.Prelude.{◌≡◌, ◌≢◌, ◌⊎◌, ℕ, ◌≤◌, ◌^◌, List, [], ◌∷◌, ◌++◌, drop, flat_map, length, map, take, None}
use Rattle.std.specs.List.{concat}
use Rattle.raft_base.specs.declared.entry_index.EntryIndex.{EntryIndex}
use Rattle.raft_base.specs.declared.errors.Error.{Error}
use Rattle.raft_base.specs.declared.errors.Error.TheVariants as errors
use Rattle.raft_records.specs.LogBatch.{Batch}
use Rattle.raft_table.specs.Table.{Table}
use Rattle.raft_files.specs.Asks.{Ask}
use Rattle.raft_engine.specs.GroupBatches.{ArePartsRead, EntriesPart, IsGroupMoving, part_batch}
use Rattle.raft_engine.specs.Parts.{IsFirstPart}
use Rattle.raft_engine.specs.Reads.{AreReadByBlocks, AreUnread}
use Rattle.raft_engine.specs.Rewriting.{moving_entries, moving_pairs}
use Rattle.raft_engine.specs.Unmoved.{AreKeysRefused}
use Rattle.raft_engine.specs.FileFailures.{Failures}

-- a batch goes on with a group: it has some entries of a region, with their bytes as they were read by their blocks
pub record IsPartRead (group id : ℕ) (es : List EntryIndex) (old new : List Ask) (batch : Batch) : Type 0 where
  pub strings : List (List ℕ)
  pub read : AreReadByBlocks es strings old new
  pub is : batch ≡ part_batch group id (es, strings)

-- the entries of some parts
abbrev pub entries_of_parts : List EntriesPart → List EntryIndex
entries_of_parts parts = flat_map (λ (part : EntriesPart). part.0) parts

-- entries are cut into these parts, behind which these are left: each is the first part of all that follow, and no part is of none
abbrev pub AreCutInto : List EntryIndex → List EntriesPart → List EntryIndex → Type 0
AreCutInto es [] rest = es ≡ rest
AreCutInto es (part ∷ parts) rest =
    (es ≢ []) × IsFirstPart es (length part.0) × (part.0 ≡ take (length part.0) es) × AreCutInto (drop (length part.0) es) parts rest

-- behind batches of a group stand those that go on with it: the entries of a region, part by part, as they were read
pub record ArePartsAdded (es : List EntryIndex) (group id : ℕ) (old new : List Ask) (before after : List Batch) : Type 0 where
  pub parts : List EntriesPart
  pub entries : entries_of_parts parts ≡ es
  pub cut : AreCutInto es parts []
  pub read : ArePartsRead parts old new
  pub added : after ≡ before ++ map (part_batch group id) parts

-- the batches of a group have what of a table is in rewrite files, part by part
pub record IsGroupInParts (t : Table) (old new : List Ask) (group : ℕ) (batches : List Batch) : Type 0 where
  pub moving : IsGroupMoving t old new group batches
  pub cut : AreCutInto (moving_entries None t.entries) moving.parts []

-- ---- why there is none

-- the entries of a part, of a region, aren't all read; or they are, and have 2^31 bytes or more
abbrev pub IsPartRefused : Failures → ℕ → List EntryIndex → List Ask → List Ask → Error → Type 0
IsPartRefused MayFail region part old new e =
    AreUnread MayFail region part old new e ⊎ ((strings : List (List ℕ)) × AreReadByBlocks part strings old new × (e ≡ errors.Full) × (2 ^ 31 ≤ length (concat strings)))

-- the first parts of entries of a region were read, and the next one is refused
pub record ArePartsRefused (MayFail : Failures) (region : ℕ) (es : List EntryIndex) (old new : List Ask) (e : Error) : Type 0 where
  pub parts : List EntriesPart
  pub rest : List EntryIndex
  pub cut : AreCutInto es parts rest
  pub count : ℕ
  pub next : IsFirstPart rest count
  pub between : List Ask
  pub read : ArePartsRead parts old between
  pub refused : IsPartRefused MayFail region (take count rest) between new e

-- all parts of entries were read, and one of these keys is that of the group markers
pub record AreGroupKeysRefused (es : List EntryIndex) (pairs : List (List ℕ × List ℕ)) (old new : List Ask) (e : Error) : Type 0 where
  pub parts : List EntriesPart
  pub cut : AreCutInto es parts []
  pub read : ArePartsRead parts old new
  pub refused : AreKeysRefused pairs e

-- why there are no batches of what of a table is in rewrite files, if there is memory
abbrev pub IsGroupRefused : Failures → Table → List Ask → List Ask → Error → Type 0
IsGroupRefused MayFail t old new e =
    ArePartsRefused MayFail t.region_id (moving_entries None t.entries) old new e ⊎ AreGroupKeysRefused (moving_entries None t.entries) (moving_pairs None t.keys) old new e
