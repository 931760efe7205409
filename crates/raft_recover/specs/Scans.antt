-- What a scan of a part of a file finds, and its lines.
use Rattle.std.specs.Prelude.{◌≡◌, ℕ, ◌+◌, ◌-◌, ◌<◌, ◌≤◌, Bool, true, false, ◌&&◌, List, [], ◌∷◌, ◌++◌, length, drop, codes, string_bytes, Option, Some, None, MatchOption, if◌then◌else◌}
use Rattle.std.specs.Fmt.{decimal}
use Rattle.raft_base.specs.Reading.{HasNoFront}
use Rattle.raft_base.specs.Signature.{signature_in}
use Rattle.raft_base.specs.declared.errors.Error.{Error}
use Rattle.raft_base.specs.declared.errors.Error.TheVariants as errors
use Rattle.raft_base.specs.declared.pipe_log.FileBlockHandle.{FileBlockHandle}
use Rattle.raft_records.specs.EntryBlock.{HasEntryBlock}
use Rattle.raft_records.specs.FilePart.{Part, IsBatchAt, HasHeader, IsNextFault}
use Rattle.raft_records.specs.Item.{Item}
use Rattle.raft_records.specs.LogBatch.{IsReadable}
use Rattle.raft_recover.specs.Requests.{queue_word}
use Rattle.raft_recover.specs.declared.scan.BlockState.{BlockState}
use Rattle.raft_recover.specs.declared.scan.BlockState.TheVariants as blocks
use Rattle.raft_recover.specs.declared.scan.Finding.{Finding}
use Rattle.raft_recover.specs.declared.scan.Finding.TheVariants.{Batch, Damage}

-- where the entry block of a batch lies that begins at this byte, and whose items begin so many bytes further on
abbrev pub block_place : Part → ℕ → ℕ → FileBlockHandle
block_place part at items_at = record { id = part.id; offset = part.offset + at + 16; len = items_at - 16 }

-- whether there is an entry block, and whether it ends in its checksum
abbrev pub IsBlockState : Part → FileBlockHandle → BlockState → Type 0
IsBlockState part place blocks.Absent = place.len ≡ 0
IsBlockState part place blocks.Whole = (0 < place.len) × ((entry_bytes : List ℕ) × HasEntryBlock part place entry_bytes)
IsBlockState part place blocks.Broken = (entry_bytes : List ℕ) → HasEntryBlock part place entry_bytes → ⊥

-- where the next batch begins if the header that stands in front can be trusted: its batch is whole
abbrev pub IsHeaderLength : List ℕ → Option ℕ → Type 0
IsHeaderLength bytes None = (offset len : ℕ) → HasHeader bytes offset len → length bytes < len
IsHeaderLength bytes (Some len) = (offset : ℕ) × HasHeader bytes offset len × (len ≤ length bytes)

-- a batch that stands at this byte: its length, how many items it has, and its entry block
pub record IsBatchFound (part : Part) (at len items : ℕ) (block : BlockState) : Type 0 where
  pub read : List Item
  pub stands : IsBatchAt part at read (at + len)
  pub count : items ≡ length read
  pub items_at : ℕ
  pub header : HasHeader (drop at part.bytes) items_at len
  pub block_state : IsBlockState part (block_place part at items_at) block

-- no batch can be read at this byte: why, and how long the header there says that it is
pub record IsDamage (part : Part) (at : ℕ) (reason : Error) (len : Option ℕ) : Type 0 where
  pub none : HasNoFront (λ bytes. IsReadable bytes (signature_in part.version part.id.seq)) (drop at part.bytes)
  pub fault : IsNextFault (signature_in part.version part.id.seq) (drop at part.bytes) reason
  pub header : IsHeaderLength (drop at part.bytes) len

-- what stands at this byte
abbrev pub IsFound : Part → ℕ → Finding → Type 0
IsFound part at (Batch len items block) = IsBatchFound part at len items block
IsFound part at (Damage reason len) = IsDamage part at reason len

-- where a scan goes on: after a batch, and after damage only if it shall, and a header says where
abbrev pub next_after : Bool → ℕ → Finding → Option ℕ
next_after past at (Batch len items block) = Some (at + len)
next_after past at (Damage reason None) = None
next_after past at (Damage reason (Some len)) = if past then Some (at + len) else None

-- what was found ends within so many bytes
abbrev pub EndsWithin : ℕ → ℕ → Finding → Type 0
EndsWithin size at (Batch len items block) = at + len ≤ size
EndsWithin size at (Damage reason None) = Unit {0}
EndsWithin size at (Damage reason (Some len)) = at + len ≤ size

-- whether a batch was found whose entry block can be read, if it has one
abbrev pub is_undamaged : Finding → Bool
is_undamaged (Batch len items blocks.Absent) = true
is_undamaged (Batch len items blocks.Whole) = true
is_undamaged (Batch len items blocks.Broken) = false
is_undamaged (Damage reason len) = false

-- whether all of what was found is undamaged
abbrev pub are_undamaged : List Finding → Bool
are_undamaged [] = true
are_undamaged (f ∷ fs) = is_undamaged f && are_undamaged fs

-- ---- lines

-- the file and the offset in it, in front of a line
abbrev pub place_words : Part → ℕ → List ℕ
place_words part at =
    queue_word part.id.queue ++ (codes " file " ++ (decimal part.id.seq ++ (codes " offset " ++ decimal (part.offset + at))))

-- the word for an entry block
abbrev pub block_word : BlockState → List ℕ
block_word blocks.Absent = codes "none"
block_word blocks.Whole = codes "whole"
block_word blocks.Broken = codes "broken"

-- why no batch can be read
abbrev pub reason_text : Error → List ℕ
reason_text (errors.Corruption text) = string_bytes text
reason_text (errors.Codec e) = codes "a number is cut short or none"
reason_text (errors.Io e) = codes "an item ends before its type"
reason_text _ = codes "unknown"

-- the line of what was found
abbrev pub finding_line : Part → ℕ → Finding → List ℕ
finding_line part at (Batch len items block) =
    place_words part at ++ (codes " length " ++ (decimal len ++ (codes " items " ++ (decimal items ++ (codes " entries " ++ (block_word block ++ codes "\n"))))))
finding_line part at (Damage reason len) =
    place_words part at ++ (codes " left " ++ (decimal (length part.bytes - at) ++ (codes " unreadable: " ++ (reason_text reason ++ codes "\n"))))

-- the line of the end of a part
abbrev pub end_line : Part → List ℕ
end_line part = place_words part (length part.bytes) ++ codes " end\n"

-- what a scan finds from a byte of a part on, and its text: a line for each finding, and one for the end if it comes there
abbrev pub IsScannedFrom : Bool → Part → ℕ → List Finding → List ℕ → Type 0
IsScannedFrom past part at [] text = (at ≡ length part.bytes) × (text ≡ end_line part)
IsScannedFrom past part at (f ∷ fs) text =
    (at < length part.bytes)
    × IsFound part at f
    × ((rest : List ℕ)
    × (text ≡ finding_line part at f ++ rest)
    × MatchOption (next_after past at f) ((fs ≡ []) × (rest ≡ [])) (λ next. IsScannedFrom past part next fs rest))

-- the text of a scan of a part, and whether all that it finds is undamaged
pub record IsScanned (past : Bool) (part : Part) (undamaged : Bool) (text : List ℕ) : Type 0 where
  pub findings : List Finding
  pub found : IsScannedFrom past part 0 findings text
  pub told : undamaged ≡ are_undamaged findings
