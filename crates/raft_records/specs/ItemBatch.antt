-- The bytes of a batch of items, and the lists of items that a batch can hold.
use Rattle.std.specs.Prelude.{◌≡◌, ◌≢◌, ℕ, ◌+◌, ◌^◌, ◌<◌, ◌≤◌, ◌⊎◌, List, [], ◌∷◌, ◌++◌, length, map, bit_xor, codes, Option, Some, None}
use Rattle.std.specs.Fmt.{decimal}
use Rattle.std.specs.List.{flat_map}
use Rattle.byteorder.specs.Endian.{little_bytes}
use Rattle.raft_base.specs.declared.errors.Error.{Error}
use Rattle.raft_base.specs.declared.pipe_log.FileBlockHandle.{FileBlockHandle}
use Rattle.raft_codec.specs.Reading.{IsFollowedBy, IsSequence, IsFaultBehind, IsSequenceFault}
use Rattle.raft_checksum.specs.Checksum.{crc32_of}
use Rattle.raft_codec.specs.Varint.{IsVarint, varint}
use Rattle.raft_base.specs.declared.compression_type.CompressionType.{CompressionType}
use Rattle.raft_base.specs.declared.entry_index.EntryIndex.{EntryIndex}
use Rattle.raft_base.specs.Corruption.{IsCorruption}
use Rattle.raft_base.specs.Runs.{IsConsecutive}
use Rattle.raft_records.specs.Item.{Item, Content, entries, command, pair, AreInBytes}
use Rattle.raft_records.specs.Entries.{Tile}
use Rattle.raft_records.specs.Grammar.{IsItem, end_of_content}
use Rattle.raft_records.specs.Spelling.{item_bytes, IsWritablePair}
use Rattle.raft_records.specs.Range.{AreInRange}
use Rattle.raft_records.specs.Sizes.{items_size, at_most_usize}
use Rattle.raft_records.specs.Faults.{IsMemory, IsNumberFault, IsItemFault}

-- ---- bytes

-- n items, one after the other, the first after no entry bytes
pub record AreItems (n : ℕ) (bytes : List ℕ) (items : List Item) : Type 0 where
  pub spelled : IsSequence (λ s (item : Item). end_of_content s item.content) IsItem 0 bytes items
  pub count : length items ≡ n

-- a CRC as it is written: xored with the file's signature where there is one
abbrev pub signed_crc : Option ℕ → ℕ → ℕ
signed_crc None crc = crc
signed_crc (Some signature) crc = bit_xor crc signature

-- the four bytes after these: their CRC, signed
abbrev pub checksum_bytes : Option ℕ → List ℕ → List ℕ
checksum_bytes signature bytes = little_bytes 4 (signed_crc signature (crc32_of bytes))

-- an item batch: the count and the items, a rest that is free, and the signed CRC of all before it
pub record IsItemBatch (bytes : List ℕ) (signature : Option ℕ) (items : List Item) (rest : List ℕ) : Type 0 where
  pub front : List ℕ
  pub counted : IsFollowedBy IsVarint AreItems front (length items) items
  pub split : bytes ≡ (front ++ rest) ++ checksum_bytes signature (front ++ rest)

-- what an encoder writes before the checksum: count and items in shortest spelling
unfoldable pub item_batch_bytes : List Item → List ℕ
item_batch_bytes items = varint (length items) ++ flat_map item_bytes items

-- what stands in the place of the checksum before it is written
abbrev pub no_checksum : List ℕ
no_checksum = 0 ∷ 0 ∷ 0 ∷ 0 ∷ []

-- the bytes that an encoder wrote of these items, and four bytes for the checksum
pub record IsEncoded (items : List Item) (bytes : List ℕ) : Type 0 where
  pub seal : List ℕ
  pub four : length seal ≡ 4
  pub split : bytes ≡ item_batch_bytes items ++ seal

-- ---- places

-- a content whose entries are at this place, compressed so, or whose key value is in its file
abbrev pub placed_content : FileBlockHandle → CompressionType → Content → Content
placed_content place compression (entries es) =
    entries (map (λ (e : EntryIndex). record e { entries = Some place; compression_type = compression }) es)
placed_content place compression (command c) = command c
placed_content place compression (pair p) = pair (record p { file_id = Some place.id })

-- an item whose entries are at this place, compressed so, and whose key value is in its file
abbrev pub placed_item : FileBlockHandle → CompressionType → Item → Item
placed_item place compression x = record x { content = placed_content place compression x.content }

-- the items of an item batch were read, and each got its place; the new bytes are the batch's rest
pub record IsDecoded (old : List ℕ) (signature : Option ℕ) (place : FileBlockHandle) (compression : CompressionType) (items : List Item) (new : List ℕ) : Type 0 where
  pub read : List Item
  pub item_batch : IsItemBatch old signature read new
  pub places : items ≡ map (placed_item place compression) read

-- ---- what a batch holds

-- an item that can be written after s entry bytes
abbrev pub FitsBehind : ℕ → Content → Type 0
FitsBehind s (entries es) = IsConsecutive es × Tile s es
FitsBehind s (command c) = Unit {0}
FitsBehind s (pair p) = IsWritablePair p

-- items that can be written one after the other: their entries' bytes run on
abbrev pub FitTogether : ℕ → List Item → Type 0
FitTogether s [] = Unit {0}
FitTogether s (item ∷ items) =
    FitsBehind s item.content × FitTogether (end_of_content s item.content) items

-- how many entry bytes there are, after s of them
abbrev pub end_of_items : ℕ → List Item → ℕ
end_of_items s [] = s
end_of_items s (item ∷ items) = end_of_items (end_of_content s item.content) items

-- the entry bytes of a batch
abbrev pub entry_bytes_of : List Item → ℕ
entry_bytes_of items = end_of_items 0 items

-- entries whose bytes come one after the other, from s on
abbrev pub with_offsets_from : ℕ → List EntryIndex → List EntryIndex
with_offsets_from s [] = []
with_offsets_from s (e ∷ es) = record e { entry_offset = s } ∷ with_offsets_from (s + e.entry_len) es

-- the bytes of these entries together
abbrev pub entry_lengths : List EntryIndex → ℕ
entry_lengths [] = 0
entry_lengths (e ∷ es) = e.entry_len + entry_lengths es

-- an entry whose bytes stand s further back
abbrev pub raised_entry : ℕ → EntryIndex → EntryIndex
raised_entry s e = record e { entry_offset = e.entry_offset + s }

-- a content whose entries stand after s more entry bytes
abbrev pub raised_content : ℕ → Content → Content
raised_content s (entries es) = entries (map (raised_entry s) es)
raised_content s (command c) = command c
raised_content s (pair p) = pair p

-- an item after s more entry bytes
abbrev pub raised_item : ℕ → Item → Item
raised_item s item = record item { content = raised_content s item.content }

-- each entry's bytes can stand so much further back
abbrev pub CanRaise : ℕ → List EntryIndex → Type 0
CanRaise s [] = Unit {0}
CanRaise s (e ∷ es) = (e.entry_offset + s < 2 ^ 32) × CanRaise s es

-- the entries of a content can stand so much further back
abbrev pub CanRaiseContent : ℕ → Content → Type 0
CanRaiseContent s (entries es) = CanRaise s es
CanRaiseContent s (command c) = Unit {0}
CanRaiseContent s (pair p) = Unit {0}

-- the first entry of a list
abbrev pub first_of : List EntryIndex → Option EntryIndex
first_of [] = None
first_of (e ∷ es) = Some e

-- an entries item's first entry, or what the items after it have
abbrev pub first_entry_or : Content → Option EntryIndex → Option EntryIndex
first_entry_or (entries es) others = first_of es
first_entry_or (command c) others = others
first_entry_or (pair p) others = others

-- the first entry of the first entries item
abbrev pub first_entry : List Item → Option EntryIndex
first_entry [] = None
first_entry (item ∷ items) = first_entry_or item.content (first_entry items)

-- ---- refusals

-- the checksum that stands at the end is not that of the bytes before it
pub record IsChecksumFault (signature : Option ℕ) (bytes : List ℕ) (e : Error) : Type 0 where
  pub content : List ℕ
  pub found : ℕ
  pub found_fits : found < 2 ^ 32
  pub split : bytes ≡ content ++ little_bytes 4 found
  pub differs : crc32_of content ≢ signed_crc signature found
  pub error : IsCorruption (codes "Checksum expected " ++ (decimal (signed_crc signature found) ++ (codes " but got " ++ decimal (crc32_of content)))) e

-- bytes that are too short, or end in a wrong checksum
abbrev pub IsSealFault : Option ℕ → List ℕ → Error → Type 0
IsSealFault signature bytes e =
    ((length bytes ≤ 4) × IsCorruption (codes "Content too short " ++ decimal (length bytes)) e) ⊎ IsChecksumFault signature bytes e

-- bytes that end in the checksum of those before it, of which there is one at least
pub record HasSeal (signature : Option ℕ) (bytes content : List ℕ) : Type 0 where
  pub some : 0 < length content
  pub split : bytes ≡ content ++ checksum_bytes signature content

-- no count, or a fault in one of the items, or there is no memory for them
abbrev pub AreItemsFault : ℕ → List ℕ → Error → Type 0
AreItemsFault n bytes e =
    IsMemory e ⊎ IsSequenceFault (λ s (item : Item). end_of_content s item.content) IsItem IsItemFault n 0 bytes e

-- no item batch: a fault of its seal, or after a good one a fault of the count or the items
abbrev pub IsItemBatchFault : Option ℕ → List ℕ → Error → Type 0
IsItemBatchFault signature bytes e =
    IsSealFault signature bytes e
    ⊎ ((content : List ℕ) × HasSeal signature bytes content × (IsNumberFault content e ⊎ IsFaultBehind IsVarint AreItemsFault content e))

-- the items fit together, their numbers are in range, bytes hold them, and what is kept beside them is theirs
pub record IsKeptBeside (items : List Item) (item_bytes entries_size : ℕ) (crc : Option ℕ) : Type 0 where
  pub fit : FitTogether 0 items
  pub in_range : AreInRange items
  pub in_bytes : AreInBytes items
  pub size : item_bytes ≡ at_most_usize (items_size items)
  pub entry_bytes : entries_size ≡ entry_bytes_of items
  pub checksum : (c : ℕ) → crc ≡ Some c → c ≡ crc32_of (item_batch_bytes items)
