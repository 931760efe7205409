-- A log batch as callers see it, and its bytes: a header, the entry bytes with their checksum, and an item batch.
use Rattle.std.specs.Prelude.{◌≡◌, ℕ, ◌+◌, ◌*◌, ◌^◌, ◌<◌, ◌≤◌, List, [], ◌∷◌, ◌++◌, map, length, Option, None}
use Rattle.byteorder.specs.Endian.{big_bytes}
use Rattle.raft_base.specs.declared.pipe_log.FileBlockHandle.{FileBlockHandle}
use Rattle.raft_base.specs.declared.compression_type.CompressionType.{CompressionType}
use Rattle.raft_base.specs.declared.compression_type.CompressionType.TheVariants as compressions
use Rattle.std.specs.List.{concat}
use Rattle.raft_base.specs.declared.errors.Error.{Error}
use Rattle.raft_base.specs.declared.errors.Error.TheVariants as errors
use Rattle.raft_base.specs.declared.entry_index.EntryIndex.{EntryIndex}
use Rattle.raft_base.specs.Compression.{compression_byte}
use Rattle.raft_base.specs.Runs.{IsConsecutive}
use Rattle.raft_records.specs.Entries.{with_lengths}
use Rattle.raft_records.specs.Faults.{IsMemoryOrMessage}
use Rattle.raft_records.specs.Item.{Item, entries_item}
use Rattle.raft_records.specs.Sizes.{item_batch_size, at_most_usize}
use Rattle.raft_records.specs.ItemBatch.{checksum_bytes, item_batch_bytes, entry_bytes_of, FitTogether, IsItemBatch, with_offsets_from, raised_item}

-- how far a batch has come: it is open to items; its bytes are made; they are signed for a file, or without a signature
pub data Stage : Type 0 where
  is_open : Stage
  encoded : Stage
  sealed : Option ℕ → Stage

-- a batch: its items, the bytes of their entries, and how far it has come
pub record Batch : Type 0 where
  pub items : List Item
  pub entry_bytes : List ℕ
  pub stage : Stage

-- the bytes are signed, or have no signature
abbrev pub IsSealedStage : Stage → Type 0
IsSealedStage (sealed signature) = Unit {0}
IsSealedStage _ = ⊥

-- the stages numbered in order, whatever signature a batch has
abbrev pub stage_number : Stage → ℕ
stage_number is_open = 0
stage_number encoded = 1
stage_number (sealed signature) = 2

-- batches of the same items and entry bytes that have come as far; for which file they are signed is not looked at
pub record AreEqual (a b : Batch) : Type 0 where
  pub items : a.items ≡ b.items
  pub entry_bytes : a.entry_bytes ≡ b.entry_bytes
  pub stage : stage_number a.stage ≡ stage_number b.stage

-- a batch without items
abbrev pub empty_batch : Batch
empty_batch = record { items = []; entry_bytes = []; stage = is_open }

-- a batch with one more item
abbrev pub with_item : Batch → Item → Batch
with_item b item = record b { items = b.items ++ item ∷ [] }

-- all of another batch after this one: its entries' bytes follow the first one's
abbrev pub with_batch : Batch → Batch → Batch
with_batch b more =
    record b { items = b.items ++ map (raised_item (length b.entry_bytes)) more.items; entry_bytes = b.entry_bytes ++ more.entry_bytes }

-- a batch and these entries of a region, whose bytes are these strings and follow the batch's; no entries add nothing
abbrev pub with_entries_added : Batch → ℕ → List EntryIndex → List (List ℕ) → Batch
with_entries_added b region [] strings = b
with_entries_added b region (e ∷ es) strings =
    record b { items = b.items ++ entries_item region (with_offsets_from (length b.entry_bytes) (with_lengths (e ∷ es) strings)) ∷ []; entry_bytes = b.entry_bytes ++ concat strings }

-- why entries' bytes are not added: they pass the limit, a message refused with one of these codes, or want of memory
abbrev pub IsBytesFault : (ℕ → Type 0) → ℕ → Error → Type 0
IsBytesFault refuses size errors.Full = 2 ^ 31 ≤ size
IsBytesFault refuses size e = IsMemoryOrMessage refuses e

-- why entries are not added: their indexes are not consecutive; they are, but their bytes are not added; want of memory
abbrev pub IsAddFault : (ℕ → Type 0) → List EntryIndex → ℕ → Error → Type 0
IsAddFault refuses es size errors.Memory = Unit {0}
IsAddFault refuses es size (errors.InvalidArgument text) = IsConsecutive es → ⊥
IsAddFault refuses es size e = IsConsecutive es × IsBytesFault refuses size e

-- the entries of the items tile the entry bytes, in order, and these are within the limit
pub record IsBatchOf (items : List Item) (entry_bytes : List ℕ) : Type 0 where
  pub tiled : FitTogether 0 items
  pub whole : length entry_bytes ≡ entry_bytes_of items
  pub fits : length entry_bytes < 2 ^ 31

-- ---- bytes

-- a header: the batch's length and then its compression byte; the item batch's offset; eight bytes each, highest first
unfoldable pub header_bytes : ℕ → CompressionType → ℕ → List ℕ
header_bytes offset compression len = big_bytes 8 (len * 256 + compression_byte compression) ++ big_bytes 8 offset

-- entry bytes and their checksum, without a signature; nothing where there are none
abbrev pub entry_block : List ℕ → List ℕ
entry_block [] = []
entry_block (byte ∷ bytes) = (byte ∷ bytes) ++ checksum_bytes None (byte ∷ bytes)

-- where the entry bytes of a batch stand that was written to this place
abbrev pub entry_place : FileBlockHandle → List ℕ → FileBlockHandle
entry_place place entry_bytes =
    record { id = place.id; offset = place.offset + 16; len = length (entry_block entry_bytes) }

-- where the item batch begins: after the header and the entry block
abbrev pub item_offset : List ℕ → ℕ
item_offset entry_bytes = 16 + length (entry_block entry_bytes)

-- header, entry block and item batch up to its checksum, where their length together is this
abbrev pub unsealed_bytes : ℕ → List Item → List ℕ → List ℕ
unsealed_bytes len items entry_bytes =
    header_bytes (item_offset entry_bytes) compressions.None len ++ (entry_block entry_bytes ++ item_batch_bytes items)

-- how many bytes a batch has: none without items, and else four after the items
abbrev pub encoded_length : List Item → List ℕ → ℕ
encoded_length [] entry_bytes = 0
encoded_length (item ∷ items) entry_bytes = item_offset entry_bytes + length (item_batch_bytes (item ∷ items)) + 4

-- The approximate length: none without items; of an open batch header, entry bytes, their checksum and items as if each
-- number took eight bytes; else the length itself.
abbrev pub approximate_length : Stage → List Item → List ℕ → ℕ
approximate_length stage [] entry_bytes = 0
approximate_length is_open (item ∷ items) entry_bytes = at_most_usize (16 + length entry_bytes + 4 + item_batch_size (item ∷ items))
approximate_length encoded (item ∷ items) entry_bytes = encoded_length (item ∷ items) entry_bytes
approximate_length (sealed signature) (item ∷ items) entry_bytes = encoded_length (item ∷ items) entry_bytes

-- the bytes of a batch in shortest numbers, with the signed checksum of its items
abbrev pub log_batch_bytes : Option ℕ → List Item → List ℕ → List ℕ
log_batch_bytes signature [] entry_bytes = []
log_batch_bytes signature (item ∷ items) entry_bytes =
    unsealed_bytes (encoded_length (item ∷ items) entry_bytes) (item ∷ items) entry_bytes ++ checksum_bytes signature (item_batch_bytes (item ∷ items))

-- a header, these bytes and an item batch, one after the other; the header gives the length and the item batch's offset
pub record IsLaidOut (bytes : List ℕ) (signature : Option ℕ) (items : List Item) (between : List ℕ) : Type 0 where
  pub behind : List ℕ
  pub rest : List ℕ
  pub compression : CompressionType
  pub item_batch : IsItemBatch behind signature items rest
  pub fits : length bytes < 2 ^ 56
  pub split : bytes ≡ header_bytes (16 + length between) compression (length bytes) ++ (between ++ behind)

-- a log batch: between header and item batch stands its entry block
abbrev pub IsLogBatch : List ℕ → Option ℕ → List Item → List ℕ → Type 0
IsLogBatch bytes signature items entry_bytes = IsLaidOut bytes signature items (entry_block entry_bytes)

-- a readable batch: header and item batch lie as those of a log batch, whatever the bytes between them are
abbrev pub IsReadable : List ℕ → Option ℕ → List Item → Type 0
IsReadable bytes signature items = (between : List ℕ) × IsLaidOut bytes signature items between
