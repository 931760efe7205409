-- Parts of files in which everything can be read.
use Rattle.std.specs.Prelude.{◌≡◌, ℕ, ◌+◌, ◌≤◌, ◌<◌, List, [], ◌∷◌, length, None, Some}
use Rattle.std.specs.List.{AllByRecursion}
use Rattle.raft_base.specs.declared.entry_index.EntryIndex.{EntryIndex}
use Rattle.raft_base.specs.declared.pipe_log.FileBlockHandle.{FileBlockHandle}
use Rattle.raft_records.specs.EntryBlock.{HasEntryBlock}
use Rattle.raft_records.specs.FilePart.{Part, IsBatchAt}
use Rattle.raft_records.specs.Item.{Item, Content, entries, command, pair}
use Rattle.raft_listing.specs.declared.damage.Loss.{Loss}
use Rattle.raft_listing.specs.declared.damage.Loss.TheVariants.{Block, Outside, Unplaced}

-- the bytes of an entry can be read: its entry block stands in the part, has its checksum, and holds them
pub record CanBeRead (part : Part) (entry : EntryIndex) : Type 0 where
  pub place : FileBlockHandle
  pub placed : entry.entries ≡ Some place
  pub block : List ℕ
  pub stands : HasEntryBlock part place block
  pub inside : entry.entry_offset + entry.entry_len ≤ length block

-- the entry block of an entry stands in the part, but ends before the bytes of the entry do
pub record EndsBefore (part : Part) (place : FileBlockHandle) (entry : EntryIndex) : Type 0 where
  pub block : List ℕ
  pub stands : HasEntryBlock part place block
  pub outside : length block < entry.entry_offset + entry.entry_len

-- why the bytes of an entry can't be read
abbrev pub IsLossOf : Part → EntryIndex → Loss → Type 0
IsLossOf part entry Unplaced = entry.entries ≡ None
IsLossOf part entry Block = (place : FileBlockHandle) × (entry.entries ≡ Some place) × ((block : List ℕ) → HasEntryBlock part place block → ⊥)
IsLossOf part entry Outside = (place : FileBlockHandle) × (entry.entries ≡ Some place) × EndsBefore part place entry

-- the bytes of all entries of what an item says can be read, if it has some
abbrev pub IsContentRead : Part → Content → Type 0
IsContentRead part (entries es) = AllByRecursion (CanBeRead part) es
IsContentRead part (command c) = Unit {0}
IsContentRead part (pair p) = Unit {0}

-- so it is of all entries of items
abbrev pub AreRead : Part → List Item → Type 0
AreRead part items = AllByRecursion (λ (item : Item). IsContentRead part item.content) items

-- from one byte of a part to another batches stand, one after the other, and the bytes of all their entries can be read
abbrev pub AreSoundBetween : Part → ℕ → ℕ → List (List Item) → Type 0
AreSoundBetween part from end [] = from ≡ end
AreSoundBetween part from end (items ∷ batches) =
    (next : ℕ) × IsBatchAt part from items next × AreRead part items × AreSoundBetween part next end batches

-- so it is from the first byte of a part to its end
abbrev pub IsSoundPart : Part → Type 0
IsSoundPart part = (batches : List (List Item)) × AreSoundBetween part 0 (length part.bytes) batches
