-- What is read of bytes, as a batch over these bytes holds it. Private words: no public clause uses them.
use Rattle.std.specs.Prelude.{◌≡◌, ℕ, List, [], ◌∷◌, ◌++◌, map, length, Option, Some, None}
use Rattle.raft_base.specs.declared.compression_type.CompressionType.TheVariants as compressions
use Rattle.raft_base.specs.declared.entry_index.EntryIndex.{EntryIndex}
use Rattle.raft_base.specs.declared.pipe_log.FileBlockHandle.{FileBlockHandle}
use Rattle.raft_base.specs.declared.pipe_log.FileId.{FileId}
use Rattle.raft_codec.specs.Reading.{Reads}
use Rattle.raft_records.specs.declared.key_value.OpType.TheVariants.{Put, Del}
use Rattle.raft_records.specs.declared.read_batch.ReadContent.{ReadContent}
use Rattle.raft_records.specs.declared.read_batch.ReadContent.TheVariants as contents
use Rattle.raft_records.specs.declared.read_batch.ReadItem.{ReadItem}
use Rattle.raft_records.specs.Grammar.{AreTails, IsContent, IsEntries, IsItem, end_behind, end_of_content}
use Rattle.raft_records.specs.Item.{Content, Item, Pair, entries, command, pair}
use Rattle.raft_records.specs.ItemBatch.{placed_content, placed_item}
use Rattle.raft_records.specs.ReadBatch.{content_shown, items_shown, spans_of, spans_taken}

-- a put of this value, or a removal where there is none
abbrev pub change_of : List ℕ → Option (List ℕ) → Option FileId → Pair
change_of key (Some value) file = record { op_type = Put; key = key; value = Some value; file_id = file }
change_of key None file = record { op_type = Del; key = key; value = None; file_id = file }

-- offset and length of an entry's bytes
abbrev pub span_of : EntryIndex → ℕ × ℕ
span_of e = (e.entry_offset, e.entry_len)

-- a content with a key and a value of its own; a run has these entries
abbrev pub content_made : ReadContent → List EntryIndex → Content
content_made (contents.Run first count) es = entries es
content_made (contents.Command c) es = command c
content_made (contents.Put key value) es = pair (change_of key.now (Some value.now) None)
content_made (contents.Delete key) es = pair (change_of key.now None None)

-- a change of a key
abbrev pub IsChange : ReadContent → Type 0
IsChange (contents.Put key value) = Unit {0}
IsChange (contents.Delete key) = Unit {0}
IsChange _ = ⊥

-- with these entries it is the content that was read, and with their spans it shows it, at any place
pub record IsHeldAs (content : ReadContent) (own : List EntryIndex) (read : Content) : Type 0 where
  pub taken : spans_taken content ≡ length own
  pub made : content_made content own ≡ read
  pub shown : (place : FileBlockHandle) → content_shown place content (map span_of own) ≡ placed_content place compressions.None read

-- with these spans they show the items that were read, at any place
pub record AreHeldAs (items : List ReadItem) (spans : List (ℕ × ℕ)) (read : List Item) : Type 0 where
  pub taken : spans_of items ≡ length spans
  pub shown : (place : FileBlockHandle) → items_shown place items spans ≡ map (placed_item place compressions.None) read

-- how far a reader of items has come: the bytes in front of it, the end of the entry bytes so far, and what it keeps of the entries so far
pub record Reached (X : Type 0) : Type 0 where
  pub bytes : List ℕ
  pub end : ℕ
  pub kept : List X

-- these bytes, this end and these things are reached
abbrev pub reached : {X : Type 0} → List ℕ → ℕ → List X → Reached X
reached bytes end kept = record { bytes = bytes; end = end; kept = kept }

-- the tail offsets of n entries from an index on are read, and what is kept of the entries is added
pub record AreTailsRead {X : Type 0} (kept_of : EntryIndex → X) (n first : ℕ) (old new : Reached X) : Type 0 where
  pub read : List EntryIndex
  pub reads : Reads (AreTails n (first, old.end)) old.bytes new.bytes read
  pub ends : new.end ≡ end_behind old.end read
  pub added : new.kept ≡ old.kept ++ map kept_of read

-- the entries of an item, so many from an index on, are read, and what is kept of them is added
pub record AreEntriesRead {X : Type 0} (kept_of : EntryIndex → X) (first count : ℕ) (old new : Reached X) : Type 0 where
  pub read : List EntryIndex
  pub reads : Reads (IsEntries old.end) old.bytes new.bytes read
  pub ends : new.end ≡ end_behind old.end read
  pub added : new.kept ≡ old.kept ++ map kept_of read
  pub held : IsHeldAs (contents.Run first count) read (entries read)

-- a content is read, and what is kept of its entries is added
pub record IsContentRead {X : Type 0} (kept_of : EntryIndex → X) (content : ReadContent) (old new : Reached X) : Type 0 where
  pub read : Content
  pub own : List EntryIndex
  pub reads : Reads (IsContent old.end) old.bytes new.bytes read
  pub ends : new.end ≡ end_of_content old.end read
  pub added : new.kept ≡ old.kept ++ map kept_of own
  pub held : IsHeldAs content own read

-- an item is read, and it is added with its spans
pub record IsItemRead (items new_items : List ReadItem) (old new : Reached (ℕ × ℕ)) : Type 0 where
  pub read : Item
  pub item : ReadItem
  pub own : List EntryIndex
  pub reads : Reads (IsItem old.end) old.bytes new.bytes read
  pub ends : new.end ≡ end_of_content old.end read.content
  pub added : new_items ≡ items ++ item ∷ []
  pub spans_added : new.kept ≡ old.kept ++ map span_of own
  pub region : item.region ≡ read.raft_group_id
  pub held : IsHeldAs item.content own read.content
