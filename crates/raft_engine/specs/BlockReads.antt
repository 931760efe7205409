-- Blocks that are read for entries, one after another.
use Rattle.std.specs.Prelude.{◌≡◌, ◌⊎◌, ℕ, ◌+◌, ◌<◌, ◌≤◌, List, ◌∷◌, ◌++◌, length, Option, Some, None, string_bytes}
use Rattle.raft_base.specs.declared.entry_index.EntryIndex.{EntryIndex}
use Rattle.raft_base.specs.declared.errors.Error.{Error}
use Rattle.raft_base.specs.declared.errors.Error.TheVariants as errors
use Rattle.raft_base.specs.declared.pipe_log.FileBlockHandle.{FileBlockHandle}
use Rattle.raft_base.specs.Corruption.{IsCorruption}
use Rattle.raft_base.specs.Errors.{IsCorruptionError}
use Rattle.raft_records.specs.Header.{IsEntryBlockOf}
use Rattle.raft_files.specs.Asks.{Ask, Read, ask}
use Rattle.raft_engine_laws.specs.Contents.{bytes_of}
use Rattle.raft_engine.specs.Reads.{IsNothingRead, NamesEntry, entry_text}
use Rattle.raft_engine.specs.declared.block_reads.EntryBlock.{EntryBlock}
use Rattle.raft_engine.specs.FileFailures.{Failures}

-- the bytes at a place were read, and are a sound block with these entry bytes
pub record IsSoundRead (place : FileBlockHandle) (entries : List ℕ) (old new : List Ask) : Type 0 where
  pub block : List ℕ
  pub asked : new ≡ ask place.id.queue (Read place block) ∷ old
  pub sound : IsEntryBlockOf place.len block entries

-- what a refusal becomes with the entry that it is about: a corruption has the region, the index and the place in front of its reason, and any other stays as it is; or there is no memory for the text
abbrev pub IsOfEntry : ℕ → ℕ → FileBlockHandle → Error → Error → Type 0
IsOfEntry region index place (errors.Corruption reason) e = IsCorruption (entry_text region index place ++ string_bytes reason) e
IsOfEntry region index place fault e = e ≡ fault

-- the bytes at a place were read for an entry; they are no sound block, or there is no memory for its entry bytes
pub record IsUnsoundRead (region index : ℕ) (place : FileBlockHandle) (old new : List Ask) (error : Error) : Type 0 where
  pub block : List ℕ
  pub asked : new ≡ ask place.id.queue (Read place block) ∷ old
  pub why : (error ≡ errors.Memory) ⊎ (IsCorruptionError error × NamesEntry region index place error × ((entries : List ℕ) → IsEntryBlockOf place.len block entries → ⊥))

-- a block that is kept is the one at the place of an entry
abbrev pub IsKeptOf : EntryIndex → Option EntryBlock → Type 0
IsKeptOf e None = ⊥
IsKeptOf e (Some kept) = e.entries ≡ Some kept.place

-- the block at the place of an entry: the one that is kept, and nothing is asked; or that is another one, and the block is read
pub record IsBlockOf (e : EntryIndex) (kept : Option EntryBlock) (block : EntryBlock) (old new : List Ask) : Type 0 where
  pub placed : e.entries ≡ Some block.place
  pub got : ((kept ≡ Some block) × (new ≡ old)) ⊎ ((IsKeptOf e kept → ⊥) × IsSoundRead block.place block.entries.items old new)

-- nothing was read for an entry, or no sound block at its place; or there is no memory
abbrev pub IsUnreadOf : Failures → ℕ → EntryIndex → List Ask → List Ask → Error → Type 0
IsUnreadOf MayFail region e old new error = ((new ≡ old) × ((error ≡ errors.Memory) ⊎ IsNothingRead MayFail e old error)) ⊎ ((place : FileBlockHandle) × (e.entries ≡ Some place) × IsUnsoundRead region e.index place old new error)

-- the block that is kept is another one, and that of the entry isn't read
pub record IsNoBlockOf (MayFail : Failures) (region : ℕ) (e : EntryIndex) (kept : Option EntryBlock) (old new : List Ask) (error : Error) : Type 0 where
  pub other : IsKeptOf e kept → ⊥
  pub unread : IsUnreadOf MayFail region e old new error

-- the bytes of an entry in the entry bytes of a block
pub record AreBytesIn (entries : List ℕ) (e : EntryIndex) (bytes : List ℕ) : Type 0 where
  pub inside : e.entry_offset + e.entry_len ≤ length entries
  pub are : bytes ≡ bytes_of entries e

-- there is no memory for them, or they aren't there
abbrev pub AreNoBytesIn : ℕ → FileBlockHandle → List ℕ → EntryIndex → Error → Type 0
AreNoBytesIn region place entries e error =
    (error ≡ errors.Memory) ⊎ (IsCorruptionError error × NamesEntry region e.index place error × (length entries < e.entry_offset + e.entry_len))
