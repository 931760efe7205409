-- Entry blocks in parts of files.
use Rattle.std.specs.Prelude.{◌≡◌, ℕ, ◌+◌, ◌-◌, ◌<◌, ◌≤◌, ◌⊎◌, List, length, take, drop, None}
use Rattle.raft_base.specs.declared.errors.Error.{Error}
use Rattle.raft_base.specs.declared.pipe_log.FileBlockHandle.{FileBlockHandle}
use Rattle.raft_records.specs.Faults.{IsAnyCorruption}
use Rattle.raft_records.specs.FilePart.{Part}
use Rattle.raft_records.specs.Header.{IsEntryBlockOf}
use Rattle.raft_records.specs.ItemBatch.{IsSealFault}

-- a place in a part: in its file, and not before its first byte or past its last
pub record IsPlaceIn (part : Part) (place : FileBlockHandle) : Type 0 where
  pub file : place.id ≡ part.id
  pub begins : part.offset ≤ place.offset
  pub ends : place.offset + place.len ≤ part.offset + length part.bytes

-- the bytes of a part from a place on
abbrev pub bytes_from : Part → FileBlockHandle → List ℕ
bytes_from part place = drop (place.offset - part.offset) part.bytes

-- the entry bytes of the entry block at this place of a part
pub record HasEntryBlock (part : Part) (place : FileBlockHandle) (entry_bytes : List ℕ) : Type 0 where
  pub inside : IsPlaceIn part place
  pub block : IsEntryBlockOf place.len (bytes_from part place) entry_bytes

-- why no entry block is there: the place isn't in the part, or the bytes there don't end in their checksum
abbrev pub IsBlockFault : Part → FileBlockHandle → Error → Type 0
IsBlockFault part place e =
    ((IsPlaceIn part place → ⊥) × IsAnyCorruption e)
    ⊎ (IsPlaceIn part place × (0 < place.len) × IsSealFault None (take place.len (bytes_from part place)) e)
