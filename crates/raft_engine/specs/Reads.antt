-- Reads of blocks, for the entries that are in them.
use Rattle.std.specs.Prelude.{◌≡◌, ◌≢◌, ◌⊎◌, ℕ, ◌+◌, ◌<◌, ◌≤◌, List, [], ◌∷◌, ◌++◌, Contains, codes, length, Some, None}
use Rattle.std.specs.Fmt.{decimal}
use Rattle.std.specs.List.{AllZip}
use Rattle.raft_base.specs.declared.entry_index.EntryIndex.{EntryIndex}
use Rattle.raft_base.specs.declared.errors.Error.{Error}
use Rattle.raft_base.specs.declared.errors.Error.TheVariants as errors
use Rattle.raft_base.specs.declared.pipe_log.FileBlockHandle.{FileBlockHandle}
use Rattle.raft_base.specs.Corruption.{IsCorruption}
use Rattle.raft_base.specs.Errors.{IsCorruptionError}
use Rattle.raft_records.specs.Header.{IsEntryBlockOf}
use Rattle.raft_table.specs.Fetches.{block_count}
use Rattle.raft_files.specs.Asks.{Ask, Read, ask}
use Rattle.raft_engine_laws.specs.Contents.{bytes_of}
use Rattle.raft_replay.specs.Stops.{place_text}
use Rattle.raft_engine.specs.FileFailures.{Failures}

-- ---- what is asked

-- this ask is a read
abbrev pub IsRead : Ask → Type 0
IsRead a = (place : FileBlockHandle) × (bytes : List ℕ) × (a ≡ ask place.id.queue (Read place bytes))

-- each of these asks is a read
abbrev pub AreReads : List Ask → Type 0
AreReads [] = Unit {0}
AreReads (a ∷ asks) = IsRead a × AreReads asks

-- only reads are asked in addition
pub record AreOnlyRead (old new : List Ask) : Type 0 where
  pub reads : List Ask
  pub only : AreReads reads
  pub asked : new ≡ reads ++ old

-- ---- what is read of entries

-- among these reads is one of the bytes at the place of an entry
pub record IsPlaceRead (reads : List Ask) (e : EntryIndex) (place : FileBlockHandle) (block : List ℕ) : Type 0 where
  pub placed : e.entries ≡ Some place
  pub read : Contains reads (ask place.id.queue (Read place block))

-- these are the bytes of an entry: at its place a sound block was read, that has them
pub record IsReadAmong (reads : List Ask) (e : EntryIndex) (bytes : List ℕ) : Type 0 where
  pub place : FileBlockHandle
  pub block : List ℕ
  pub read : IsPlaceRead reads e place block
  pub entries : List ℕ
  pub sound : IsEntryBlockOf place.len block entries
  pub inside : e.entry_offset + e.entry_len ≤ length entries
  pub are : bytes ≡ bytes_of entries e

-- at the place of an entry something was read that is no sound block, or one that ends before the bytes of the entry do
pub record IsDamaged (reads : List Ask) (e : EntryIndex) : Type 0 where
  pub place : FileBlockHandle
  pub block : List ℕ
  pub read : IsPlaceRead reads e place block
  pub lacks : (entries : List ℕ) → IsEntryBlockOf place.len block entries → length entries < e.entry_offset + e.entry_len

-- the blocks of these entries were read, each once for all neighbors that are in it, and nothing else was asked; the entries have these bytes
pub record AreReadByBlocks (es : List EntryIndex) (strings : List (List ℕ)) (old new : List Ask) : Type 0 where
  pub reads : List Ask
  pub only : AreReads reads
  pub asked : new ≡ reads ++ old
  pub once : length reads ≡ block_count es
  pub have : AllZip (IsReadAmong reads) es strings

-- the text about an entry of a region, and the place of its block, in front of a reason
abbrev pub entry_text : ℕ → ℕ → FileBlockHandle → List ℕ
entry_text region index place =
    codes "region " ++ (decimal region ++ (codes ", index " ++ (decimal index ++ (codes ", " ++ place_text place.id place.offset))))

-- a refusal by a text that begins so, or for want of memory for it
abbrev pub NamesEntry : ℕ → ℕ → FileBlockHandle → Error → Type 0
NamesEntry region index place error = (reason : List ℕ) × IsCorruption (entry_text region index place ++ reason) error

-- why nothing is read for an entry behind all that was asked so far, if there is memory: it has no place, and that is a corruption; or the files fail to read there
abbrev pub IsNothingRead : Failures → EntryIndex → List Ask → Error → Type 0
IsNothingRead MayFail e asks error =
    ((e.entries ≡ None) × IsCorruptionError error) ⊎ ((place : FileBlockHandle) × (e.entries ≡ Some place) × MayFail asks (ask place.id.queue (Read place [])) error)

-- so it is for one of these entries
abbrev pub IsOneUnread : Failures → List EntryIndex → List Ask → Error → Type 0
IsOneUnread MayFail es asks error = (e : EntryIndex) × Contains es e × IsNothingRead MayFail e asks error

-- why these entries of a region, one at least, aren't read, after reads alone: not all of their blocks were read, and nothing is read for one of them; or there is no memory; or one of them is damaged, and the refusal names it
pub record AreUnread (MayFail : Failures) (region : ℕ) (es : List EntryIndex) (old new : List Ask) (error : Error) : Type 0 where
  pub some : es ≢ []
  pub reads : List Ask
  pub only : AreReads reads
  pub asked : new ≡ reads ++ old
  pub why : ((length reads < block_count es) × IsOneUnread MayFail es new error) ⊎ (error ≡ errors.Memory)
      ⊎ (IsCorruptionError error × ((e : EntryIndex) × Contains es e × (damaged : IsDamaged reads e) × NamesEntry region e.index damaged.place error))
