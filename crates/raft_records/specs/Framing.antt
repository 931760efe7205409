-- Log batches as they are read, section by section, and what is promised of that.
use Rattle.std.specs.Prelude.{◌≢◌, ℕ, ◌-◌, ◌^◌, ◌<◌, List, [], length, map, drop, Option}
use Rattle.raft_codec.specs.Reading.{Reads}
use Rattle.raft_base.specs.declared.compression_type.CompressionType.{CompressionType}
use Rattle.raft_records.specs.Item.{Item, bare}
use Rattle.raft_records.specs.Range.{AreInRange}
use Rattle.raft_records.specs.ItemBatch.{IsItemBatch}
use Rattle.raft_records.specs.LogBatch.{IsBatchOf, encoded_length, log_batch_bytes, IsLogBatch}
use Rattle.raft_records.specs.Header.{IsHeader, IsEntryBlockOf}

-- the bytes begin with a header, which gives their number and an offset; from that offset to the end is an item batch
pub record IsFramed (bytes : List ℕ) (signature : Option ℕ) (items : List Item) (offset : ℕ) : Type 0 where
  pub compression : CompressionType
  pub rest : List ℕ
  pub header : Reads IsHeader bytes (drop 16 bytes) (offset, compression, length bytes)
  pub item_batch : IsItemBatch (drop offset bytes) signature items rest

-- bytes that are framed so, with the entry block of these entry bytes from the header to that offset
pub record IsFramedWith (bytes : List ℕ) (signature : Option ℕ) (items : List Item) (entry_bytes : List ℕ) : Type 0 where
  pub offset : ℕ
  pub frame : IsFramed bytes signature items offset
  pub entry_block : IsEntryBlockOf (offset - 16) (drop 16 bytes) entry_bytes

-- a batch with items, written and signed, is a log batch of its items, less what bytes don't hold, and its entry bytes
abbrev pub LogBatchIsSpelled : Type 0
LogBatchIsSpelled =
    (signature : Option ℕ) (items : List Item) (entry_bytes : List ℕ) → IsBatchOf items entry_bytes → AreInRange items → items ≢ [] → encoded_length items entry_bytes < 2 ^ 56 → IsLogBatch (log_batch_bytes signature items entry_bytes) signature (map bare items) entry_bytes
