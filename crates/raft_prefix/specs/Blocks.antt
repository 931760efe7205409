-- The entry blocks of the batches of a part.
use Rattle.std.specs.Prelude.{◌≡◌, ◌⊎◌, ℕ, ◌<◌, ◌≤◌, List, ◌++◌, length, codes, Contains}
use Rattle.std.specs.List.{AllByRecursion}
use Rattle.std.specs.List.Sorted.{IsStrictlyIncreasing}
use Rattle.raft_base.specs.Corruption.{IsCorruption}
use Rattle.raft_base.specs.declared.errors.Error.{Error}
use Rattle.raft_base.specs.declared.pipe_log.FileId.{FileId}
use Rattle.raft_base.specs.declared.pipe_log.LogQueue.TheVariants.{Rewrite}
use Rattle.raft_records.specs.FilePart.{Part, AreBatchesUpTo, IsBatchAt}
use Rattle.raft_records.specs.Item.{Item}
use Rattle.raft_records.specs.LogBatch.{entry_block}
use Rattle.raft_replay.specs.Cuts.{bytes_before}
use Rattle.raft_replay.specs.Stops.{place_text}

-- what stands between the header and the items of a batch is its entry block: entry bytes and their checksum, or nothing
abbrev pub HasSoundBlock : {part : Part} {at next : ℕ} {items : List Item} → IsBatchAt part at items next → Type 0
HasSoundBlock b = (entry_bytes : List ℕ) × (b.between ≡ entry_block entry_bytes)

-- so it is of each batch of a part, up to where reading stops
abbrev pub AreBlocksSound : Part → Type 0
AreBlocksSound part = (at next : ℕ) (items : List Item) → AreBatchesUpTo part at → (b : IsBatchAt part at items next) → HasSoundBlock b

-- so it is of those that end at this byte or before
abbrev pub AreSoundTo : Part → ℕ → Type 0
AreSoundTo part end = (at next : ℕ) (items : List Item) → AreBatchesUpTo part at → (b : IsBatchAt part at items next) → next ≤ end → HasSoundBlock b

-- so it isn't of the batch that begins at this byte of a part, which reading reaches
abbrev pub IsUnsoundAt : Part → ℕ → Type 0
IsUnsoundAt part at = AreBatchesUpTo part at × ((items : List Item) × (next : ℕ) × (b : IsBatchAt part at items next) × ¬ (HasSoundBlock b))

-- of the batches of a part that end at this byte or before, so it isn't of just those that begin at these bytes, from first to last
pub record AreUnsoundTo (part : Part) (end : ℕ) (begins : List ℕ) : Type 0 where
  pub are : AllByRecursion (IsUnsoundAt part) begins
  pub others : (at next : ℕ) (items : List Item) → AreBatchesUpTo part at → (b : IsBatchAt part at items next) → next ≤ end → HasSoundBlock b ⊎ Contains begins at
  pub in_order : IsStrictlyIncreasing begins
  pub before : AllByRecursion (λ at. at < end) begins

-- of all batches of a part
abbrev pub AreUnsoundIn : Part → List ℕ → Type 0
AreUnsoundIn part begins = AreUnsoundTo part (length part.bytes) begins

-- so it isn't of a batch of a part, but of all batches in front of it
pub record HasUnsoundBlock (part : Part) : Type 0 where
  pub at : ℕ
  pub next : ℕ
  pub items : List Item
  pub batches : AreBatchesUpTo part at
  pub batch : IsBatchAt part at items next
  pub unsound : ¬ (HasSoundBlock batch)
  pub before : AreBlocksSound (bytes_before part at)

-- the refusal of a file for the entry block of the batch at this offset
abbrev pub damaged_entries_text : FileId → ℕ → List ℕ
damaged_entries_text id at = place_text id at ++ codes "the entries of this batch are damaged"

-- a part that begins its file has an unsound block, and the refusal says where the first such batch begins
pub record IsUnsoundAs (part : Part) (e : Error) : Type 0 where
  pub block : HasUnsoundBlock part
  pub text : IsCorruption (damaged_entries_text part.id block.at) e

-- a part of a rewrite file has sound blocks alone; of one of an append file this says nothing
abbrev pub IsPartSound : Part → Type 0
IsPartSound part = part.id.queue ≡ Rewrite → AreBlocksSound part
