-- Parts of files, and the log batches that stand in them one after the other.
use Rattle.std.specs.Prelude.{◌≡◌, ◌≢◌, ℕ, ◌+◌, ◌^◌, ◌<◌, ◌≤◌, ◌⊎◌, List, [], ◌∷◌, ◌++◌, length, map, drop, take, Option, Some, None}
use Rattle.raft_base.specs.declared.errors.Error.{Error}
use Rattle.raft_base.specs.declared.errors.Error.TheVariants as errors
use Rattle.raft_base.specs.declared.pipe_log.FileBlockHandle.{FileBlockHandle}
use Rattle.raft_base.specs.declared.pipe_log.FileId.{FileId}
use Rattle.raft_base.specs.declared.pipe_log.LogFileContext.{LogFileContext}
use Rattle.raft_base.specs.declared.pipe_log.Version.{Version}
use Rattle.raft_codec.specs.Reading.{Reads}
use Rattle.raft_base.specs.Signature.{signature_in}
use Rattle.raft_base.specs.declared.compression_type.CompressionType.{CompressionType}
use Rattle.raft_base.specs.declared.compression_type.CompressionType.TheVariants as compressions
use Rattle.raft_records.specs.Faults.{IsMemory, IsAnyCorruption}
use Rattle.raft_records.specs.Header.{IsHeader, IsHeaderFault}
use Rattle.raft_records.specs.Item.{Item, AreInBytes}
use Rattle.raft_records.specs.ItemBatch.{placed_item, IsItemBatchFault}
use Rattle.raft_records.specs.LogBatch.{IsBatchOf, IsLaidOut, encoded_length, entry_place, log_batch_bytes}
use Rattle.raft_records.specs.Range.{AreInRange}

-- bytes of a file, from this offset on
pub record Part : Type 0 where
  pub id : FileId
  pub version : Version
  pub offset : ℕ
  pub bytes : List ℕ

-- these bytes of a file, from an offset on
abbrev pub part_of : LogFileContext → ℕ → List ℕ → Part
part_of file offset bytes = record { id = file.id; version = file.version; offset = offset; bytes = bytes }

-- a part ends past the last offset
abbrev pub IsPartRefusal : ℕ → Error → Type 0
IsPartRefusal end (errors.InvalidArgument text) = 2 ^ 64 ≤ end
IsPartRefusal end e = IsMemory e

-- a batch that is readable in the part's file begins at this byte of the part, and these are its items: entries have
-- the place of what lies between header and item batch, key values the file; the next batch begins after it
pub record IsBatchAt (part : Part) (at : ℕ) (items : List Item) (next : ℕ) : Type 0 where
  pub bytes : List ℕ
  pub read : List Item
  pub between : List ℕ
  pub laid_out : IsLaidOut bytes (signature_in part.version part.id.seq) read between
  pub stands : drop at part.bytes ≡ bytes ++ drop next part.bytes
  pub ends : next ≡ at + length bytes
  pub places : items ≡
      map (placed_item (record { id = part.id; offset = part.offset + at + 16; len = length between }) laid_out.compression) read

-- Where the bytes of a written batch that has items stand in a part of the file that they are signed for, at the offset
-- of the place that they were written to, the batch stands there, with its items as the write has placed them.
abbrev pub WrittenBatchStands : Type 0
WrittenBatchStands =
    (part : Part) (at : ℕ) (handle : FileBlockHandle) (items : List Item) (entry_bytes rest : List ℕ)
    → IsBatchOf items entry_bytes → AreInRange items → AreInBytes items → items ≢ [] → encoded_length items entry_bytes < 2 ^ 56
    → handle.id ≡ part.id → handle.offset ≡ part.offset + at
    → drop at part.bytes ≡ log_batch_bytes (signature_in part.version part.id.seq) items entry_bytes ++ rest
    → IsBatchAt part at (map (placed_item (entry_place handle entry_bytes) compressions.None) items) (at + encoded_length items entry_bytes)

-- the end of the part, or the batch that stands there
abbrev pub IsNext : Part → ℕ → Option (List Item × ℕ) → Type 0
IsNext part at None = at ≡ length part.bytes
IsNext part at (Some next) = IsBatchAt part at next.0 next.1

-- batches of these items stand one after the other, from the first byte up to the second
abbrev pub StandBetween : Part → ℕ → ℕ → List (List Item) → Type 0
StandBetween part from end [] = from ≡ end
StandBetween part from end (items ∷ batches) = (next : ℕ) × IsBatchAt part from items next × StandBetween part next end batches

-- what stands before this byte of a part are readable batches
abbrev pub AreBatchesUpTo : Part → ℕ → Type 0
AreBatchesUpTo part end = (batches : List (List Item)) × StandBetween part 0 end batches

-- a header that stands in front: where its item batch begins, and how long its batch is
pub record HasHeader (bytes : List ℕ) (offset len : ℕ) : Type 0 where
  pub compression : CompressionType
  pub rest : List ℕ
  pub header : Reads IsHeader bytes rest (offset, compression, len)

-- a batch that is longer than what is left
pub record IsCutShort (bytes : List ℕ) (e : Error) : Type 0 where
  pub offset : ℕ
  pub len : ℕ
  pub header : HasHeader bytes offset len
  pub short : length bytes < len
  pub error : IsAnyCorruption e

-- a fault of the item batch of a batch that stands there whole
pub record HasItemBatchFault (signature : Option ℕ) (bytes : List ℕ) (e : Error) : Type 0 where
  pub offset : ℕ
  pub len : ℕ
  pub header : HasHeader bytes offset len
  pub whole : len ≤ length bytes
  pub fault : IsItemBatchFault signature (drop offset (take len bytes)) e

-- why no batch is read there
abbrev pub IsNextFault : Option ℕ → List ℕ → Error → Type 0
IsNextFault signature bytes e = IsHeaderFault bytes e ⊎ IsCutShort bytes e ⊎ HasItemBatchFault signature bytes e
