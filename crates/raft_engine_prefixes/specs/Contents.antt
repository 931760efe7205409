-- The contents of entries, as the bytes of files and what was read tell them.
use Rattle.std.specs.Prelude.{◌≡◌, ◌≢◌, ℕ, ◌+◌, ◌≤◌, List, [], ◌∷◌, ◌++◌, Contains, length, map, Option, Some, None}
use Rattle.std.specs.List.{concat}
use Rattle.raft_base.specs.declared.compression_type.CompressionType.TheVariants as compressions
use Rattle.raft_base.specs.declared.entry_index.EntryIndex.{EntryIndex}
use Rattle.raft_base.specs.declared.pipe_log.FileBlockHandle.{FileBlockHandle}
use Rattle.raft_base.specs.declared.pipe_log.LogQueue.{LogQueue}
use Rattle.raft_base.specs.declared.pipe_log.LogQueue.TheVariants.{Append, Rewrite}
use Rattle.raft_records.specs.Entries.{with_lengths}
use Rattle.raft_records.specs.Header.{IsEntryBlockOf}
use Rattle.raft_records.specs.Item.{Item}
use Rattle.raft_records.specs.ItemBatch.{with_offsets_from}
use Rattle.raft_records.specs.LogBatch.{entry_place, log_batch_bytes}
use Rattle.raft_files.specs.Asks.{Act, Put, Cut, Found, Read, Ask, acts_on, ask}
use Rattle.raft_files.specs.Disk.{NumberedBytes, begun}
use Rattle.raft_files.specs.Places.{bytes_at}
use Rattle.raft_engine_laws.specs.Contents.{bytes_of}
use Rattle.raft_engine_prefixes.specs.Done.{numbers, AreRisingFrom}

-- these bytes at a place tell the contents of the entries there: each has those at its offset, of its length
abbrev pub TellContents : FileBlockHandle → List ℕ → (EntryIndex → List ℕ) → Type 0
TellContents place block content =
    (e : EntryIndex) → e.entries ≡ Some place → e.entry_offset + e.entry_len ≤ length block → content e ≡ bytes_of block e

-- the files of a queue tell contents: at each place that has bytes in them, these do
abbrev pub AreToldByFiles : LogQueue → List NumberedBytes → (EntryIndex → List ℕ) → Type 0
AreToldByFiles queue files content =
    (place : FileBlockHandle) (block : List ℕ) → place.id.queue ≡ queue
    → bytes_at files place.id.seq place.offset place.len ≡ Some block → TellContents place block content

-- What was read at a place tells contents where it is a sound block: each entry there has its bytes among the block's entry bytes. A
-- read of anything else tells nothing, so that one which is refused, since the block is damaged, costs no contents.
abbrev pub TellSoundContents : FileBlockHandle → List ℕ → (EntryIndex → List ℕ) → Type 0
TellSoundContents place block content =
    (entries : List ℕ) → IsEntryBlockOf place.len block entries
    → (e : EntryIndex) → e.entries ≡ Some place → e.entry_offset + e.entry_len ≤ length entries → content e ≡ bytes_of entries e

-- the sound blocks that were read tell contents
abbrev pub AreToldByReads : List Act → (EntryIndex → List ℕ) → Type 0
AreToldByReads [] content = Unit {0}
AreToldByReads (Read place block ∷ earlier) content = TellSoundContents place block content × AreToldByReads earlier content
AreToldByReads (_ ∷ earlier) content = AreToldByReads earlier content

-- contents are told by what was asked of a queue: by the bytes of all files that were found or begun, and by the sound blocks that were read
abbrev pub AreTold : LogQueue → List Act → (EntryIndex → List ℕ) → Type 0
AreTold queue acts content = AreToldByFiles queue (begun acts) content × AreToldByReads acts content

-- the same of both queues
abbrev pub AreBothTold : List Ask → (EntryIndex → List ℕ) → Type 0
AreBothTold asks content = AreTold Append (acts_on Append asks) content × AreTold Rewrite (acts_on Rewrite asks) content

-- an act after which all bytes that were there stand where they stood
abbrev pub KeepsBytes : Act → Type 0
KeepsBytes (Cut len) = ⊥
KeepsBytes (Found files) = ⊥
KeepsBytes _ = Unit {0}

-- ---- contents that are told

-- what an entry has of a block, which may not be there
abbrev pub bytes_in : Option (List ℕ) → EntryIndex → List ℕ
bytes_in None e = []
bytes_in (Some block) e = bytes_of block e

-- what an entry at a place, if it has one, has of the files that were found or begun
abbrev pub content_at : List Ask → Option FileBlockHandle → EntryIndex → List ℕ
content_at asks None e = []
content_at asks (Some place) e = bytes_in (bytes_at (begun (acts_on place.id.queue asks)) place.id.seq place.offset place.len) e

-- the contents that these files tell; an entry whose place has no bytes in them has none
abbrev pub content_of : List Ask → EntryIndex → List ℕ
content_of asks e = content_at asks e.entries e

-- what was read at a place stands there in these files of a queue, if it is a sound block
abbrev pub IsTrueRead : LogQueue → List NumberedBytes → FileBlockHandle → List ℕ → Type 0
IsTrueRead queue files place block =
    (entries : List ℕ) → IsEntryBlockOf place.len block entries
    → (place.id.queue ≡ queue) × (bytes_at files place.id.seq place.offset place.len ≡ Some block)

-- the sound blocks that were read of a queue stand in these files
abbrev pub AreTrueReads : LogQueue → List NumberedBytes → List Act → Type 0
AreTrueReads queue files [] = Unit {0}
AreTrueReads queue files (Read place block ∷ earlier) = IsTrueRead queue files place block × AreTrueReads queue files earlier
AreTrueReads queue files (_ ∷ earlier) = AreTrueReads queue files earlier

-- the same of both queues, in the files that were found or begun
abbrev pub AreBothTrueReads : List Ask → Type 0
AreBothTrueReads asks =
    AreTrueReads Append (begun (acts_on Append asks)) (acts_on Append asks)
    × AreTrueReads Rewrite (begun (acts_on Rewrite asks)) (acts_on Rewrite asks)

-- ---- written batches

-- entries at this place
abbrev pub placed_entries : FileBlockHandle → List EntryIndex → List EntryIndex
placed_entries place es = map (λ (e : EntryIndex). record e { entries = Some place; compression_type = compressions.None }) es

-- each entry has the content that was added for it
abbrev pub HaveContents : (EntryIndex → List ℕ) → List EntryIndex → List (List ℕ) → Type 0
HaveContents content [] strings = Unit {0}
HaveContents content (e ∷ es) [] = ⊥
HaveContents content (e ∷ es) (bytes ∷ strings) = (content e ≡ bytes) × HaveContents content es strings

-- Contents are told by what was asked once the bytes of a written batch that has items were put behind those of the last
-- file, at the place that they were written to.
pub record AreToldByWritten (queue : LogQueue) (handle : FileBlockHandle) (entry_bytes : List ℕ) (content : EntryIndex → List ℕ) : Type 0 where
  pub signature : Option ℕ
  pub items : List Item
  pub some : items ≢ []
  pub acts : List Act
  pub closed : List NumberedBytes
  pub last : NumberedBytes
  pub first : ℕ
  pub files : begun acts ≡ closed ++ last ∷ []
  pub rising : AreRisingFrom first (numbers (begun acts))
  pub file : handle.id ≡ record { queue = queue; seq = last.0 }
  pub behind : handle.offset ≡ length last.1
  pub told : AreTold queue (Put (log_batch_bytes signature items entry_bytes) ∷ acts) content

-- of an entry of such a batch the content are its bytes among the entry bytes
abbrev pub WrittenEntryIsTold : Type 0
WrittenEntryIsTold =
    (queue : LogQueue) (handle : FileBlockHandle) (entry_bytes : List ℕ) (content : EntryIndex → List ℕ)
    → AreToldByWritten queue handle entry_bytes content
    → (e : EntryIndex) → e.entries ≡ Some (entry_place handle entry_bytes) → e.entry_offset + e.entry_len ≤ length entry_bytes
    → content e ≡ bytes_of entry_bytes e

-- so each entry that was added, behind what was there and in front of what came later, has the byte string that was added
-- for it
abbrev pub AddedEntriesAreTold : Type 0
AddedEntriesAreTold =
    (queue : LogQueue) (handle : FileBlockHandle) (entry_bytes : List ℕ) (content : EntryIndex → List ℕ)
    → AreToldByWritten queue handle entry_bytes content
    → (es : List EntryIndex) (strings : List (List ℕ)) (before behind : List ℕ) → entry_bytes ≡ before ++ (concat strings ++ behind)
    → HaveContents content (placed_entries (entry_place handle entry_bytes) (with_offsets_from (length before) (with_lengths es strings))) strings

-- of an entry whose block was read, and is sound, the content are its bytes among the entry bytes that the block holds
abbrev pub ReadEntryIsTold : Type 0
ReadEntryIsTold =
    (asks : List Ask) (place : FileBlockHandle) (block entry_bytes : List ℕ) (content : EntryIndex → List ℕ) (e : EntryIndex)
    → AreBothTold asks content → Contains asks (ask place.id.queue (Read place block))
    → IsEntryBlockOf place.len block entry_bytes → e.entries ≡ Some place
    → e.entry_offset + e.entry_len ≤ length entry_bytes → content e ≡ bytes_of entry_bytes e
