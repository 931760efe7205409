-- The entry blocks of a queue's last file, which an opening checks.
use Rattle.std.specs.Prelude.{◌≡◌, ℕ, List, [], ◌∷◌, ◌++◌, codes}
use Rattle.raft_base.specs.Corruption.{IsCorruption}
use Rattle.raft_base.specs.declared.errors.Error.{Error}
use Rattle.raft_base.specs.declared.pipe_log.FileId.{FileId}
use Rattle.raft_base.specs.declared.pipe_log.LogQueue.{LogQueue}
use Rattle.raft_base.specs.declared.pipe_log.LogQueue.TheVariants.{Append, Rewrite}
use Rattle.raft_base.specs.declared.pipe_log.Version.{Version}
use Rattle.raft_records.specs.FilePart.{Part, AreBatchesUpTo, IsBatchAt}
use Rattle.raft_records.specs.Item.{Item}
use Rattle.raft_records.specs.LogBatch.{entry_block}
use Rattle.raft_files.specs.Asks.{Act, NumberedBytes}
use Rattle.raft_files.specs.Disk.{MayStand}
use Rattle.raft_replay.specs.Cuts.{bytes_before}
use Rattle.raft_replay.specs.Stops.{place_text}
use Rattle.raft_recover.specs.Files.{whole_file}

-- what stands between the header and the items of a batch is its entry block: entry bytes and their checksum, or nothing
abbrev pub HasSoundBlock : {part : Part} {at next : ℕ} {items : List Item} → IsBatchAt part at items next → Type 0
HasSoundBlock b = (entry_bytes : List ℕ) × (b.between ≡ entry_block entry_bytes)

-- so it is of each batch of a part, up to where reading stops
abbrev pub AreBlocksSound : Part → Type 0
AreBlocksSound part = (at next : ℕ) (items : List Item) → AreBatchesUpTo part at → (b : IsBatchAt part at items next) → HasSoundBlock b

-- so it isn't of the batch that begins at this byte of a part, which reading reaches
abbrev pub IsUnsoundAt : Part → ℕ → Type 0
IsUnsoundAt part at = AreBatchesUpTo part at × ((items : List Item) × (next : ℕ) × (b : IsBatchAt part at items next) × ¬ (HasSoundBlock b))

-- so it isn't of a batch of a part, but of all batches in front of it
pub record HasUnsoundBlock (part : Part) : Type 0 where
  pub at : ℕ
  pub next : ℕ
  pub items : List Item
  pub batches : AreBatchesUpTo part at
  pub batch : IsBatchAt part at items next
  pub unsound : ¬ (HasSoundBlock batch)
  pub before : AreBlocksSound (bytes_before part at)

-- the refusal of a file for the entry block of the batch at this offset
abbrev pub damaged_entries_text : FileId → ℕ → List ℕ
damaged_entries_text id at = place_text id at ++ codes "the entries of this batch are damaged"

-- a part that begins its file has an unsound block, and the refusal says where the first such batch begins
pub record IsUnsoundAs (part : Part) (e : Error) : Type 0 where
  pub block : HasUnsoundBlock part
  pub text : IsCorruption (damaged_entries_text part.id block.at) e

-- of a rewrite file all blocks are sound; of an append file this says nothing
abbrev pub IsFileSound : LogQueue → Version → NumberedBytes → Type 0
IsFileSound Append version file = Unit {0}
IsFileSound Rewrite version file = AreBlocksSound (whole_file Rewrite version file)

-- so it is of a part that begins its file
abbrev pub IsPartSound : Part → Type 0
IsPartSound part = part.id.queue ≡ Rewrite → AreBlocksSound part

-- so it is of the last file of a queue
abbrev pub IsLastSound : LogQueue → Version → List NumberedBytes → Type 0
IsLastSound queue version files = (closed : List NumberedBytes) (last : NumberedBytes) → files ≡ closed ++ last ∷ [] → IsFileSound queue version last

-- the last rewrite file has an unsound block, and the refusal says so
pub record IsLastUnsoundAs (queue : LogQueue) (version : Version) (files : List NumberedBytes) (e : Error) : Type 0 where
  pub of_rewrite : queue ≡ Rewrite
  pub closed : List NumberedBytes
  pub last : NumberedBytes
  pub split : files ≡ closed ++ last ∷ []
  pub unsound : IsUnsoundAs (whole_file queue version last) e

-- whatever may stand of the files of a queue, all blocks of the last one are sound, if it is the rewrite queue
abbrev pub NoneIsUnsound : LogQueue → Version → List Act → Type 0
NoneIsUnsound queue version acts = (files : List NumberedBytes) → MayStand acts files → IsLastSound queue version files
