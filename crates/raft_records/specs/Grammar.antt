-- The bytes of log items, by cases.
use Rattle.std.specs.Prelude.{◌≡◌, ℕ, ◌+◌, ◌-◌, ◌^◌, ◌<◌, List, [], ◌∷◌, length, Option, Some, None}
use Rattle.raft_codec.specs.Reading.{IsTagged, IsFollowedBy, IsSequence}
use Rattle.raft_codec.specs.Varint.{IsVarint}
use Rattle.raft_base.specs.declared.pipe_log.FileId.{FileId}
use Rattle.raft_base.specs.declared.entry_index.EntryIndex.{EntryIndex}
use Rattle.raft_records.specs.declared.command.Command.{Command}
use Rattle.raft_records.specs.declared.command.Command.TheVariants.{Clean, Compact, Truncate}
use Rattle.raft_records.specs.declared.key_value.OpType.{OpType}
use Rattle.raft_records.specs.declared.key_value.OpType.TheVariants.{Put, Del}
use Rattle.raft_records.specs.Item.{Item, Content, entries, command, pair, Pair, bare_entry}

-- the byte that stands for an op type
abbrev pub op_type_byte : OpType → ℕ
op_type_byte Put = 1
op_type_byte Del = 2

-- a command's type byte, and after that of a Compact or a Truncate the index
abbrev pub IsCommand : List ℕ → Command → Type 0
IsCommand bytes Clean = bytes ≡ 1 ∷ []
IsCommand bytes (Compact index) = IsTagged 2 IsVarint bytes index
IsCommand bytes (Truncate index) = IsTagged 3 IsVarint bytes index

-- a length, and that many bytes after it
abbrev pub IsByteString : List ℕ → List ℕ → Type 0
IsByteString bytes text =
    IsFollowedBy IsVarint (λ n rest (behind : List ℕ). (rest ≡ behind) × (length behind ≡ n)) bytes (length text) text

-- a Put has an op type byte, a key and a value, a Del an op type byte and a key; the file is not in the bytes
abbrev pub IsPairOf : OpType → Option (List ℕ) → Option FileId → List ℕ → List ℕ → Type 0
IsPairOf Put (Some value) None key bytes =
    IsTagged 1 (λ rest. IsFollowedBy IsByteString (λ _. IsByteString) rest key) bytes value
IsPairOf Del None None key bytes = IsTagged 2 IsByteString bytes key
IsPairOf _ _ _ key bytes = ⊥

-- the bytes of a change of a key
abbrev pub IsKeyValue : List ℕ → Pair → Type 0
IsKeyValue bytes p = IsPairOf p.op_type p.value p.file_id p.key bytes

-- where an entry's bytes end, counted from the first entry byte of the batch
abbrev pub tail_of : EntryIndex → ℕ
tail_of e = e.entry_offset + e.entry_len

-- An entry's tail offset. Its index and the offset of its bytes are those that come next; its tail offset
-- is below 2^32, its index is below 2^64 - 1, and its place is not in the bytes.
pub record IsTail (next : ℕ × ℕ) (bytes : List ℕ) (e : EntryIndex) : Type 0 where
  pub tail : IsVarint bytes (tail_of e)
  pub index : e.index ≡ next.0
  pub offset : e.entry_offset ≡ next.1
  pub index_fits : e.index < 2 ^ 64 - 1
  pub tail_fits : tail_of e < 2 ^ 32
  pub bare : e ≡ bare_entry e

-- n tail offsets, one after the other, the first for this index and offset; each further entry has the next index and
-- begins where the one before it ends
pub record AreTails (n : ℕ) (next : ℕ × ℕ) (bytes : List ℕ) (es : List EntryIndex) : Type 0 where
  pub tails : IsSequence (λ (at : ℕ × ℕ) e. (at.0 + 1, tail_of e)) IsTail next bytes es
  pub count : length es ≡ n

-- n entries after s entry bytes: the first index and the tail offsets; nothing where there are none
abbrev pub AreIndexAndTails : ℕ → ℕ → List ℕ → List EntryIndex → Type 0
AreIndexAndTails s n bytes [] = (bytes ≡ []) × (n ≡ 0)
AreIndexAndTails s n bytes (e ∷ es) = IsFollowedBy IsVarint (λ first. AreTails n (first, s)) bytes e.index (e ∷ es)

-- the count of entries and the entries, read after s entry bytes
abbrev pub IsEntries : ℕ → List ℕ → List EntryIndex → Type 0
IsEntries s bytes es = IsFollowedBy IsVarint (AreIndexAndTails s) bytes (length es) es

-- a type byte and what it says
abbrev pub IsContent : ℕ → List ℕ → Content → Type 0
IsContent s bytes (entries es) = IsTagged 1 (IsEntries s) bytes es
IsContent s bytes (command c) = IsTagged 2 IsCommand bytes c
IsContent s bytes (pair p) = IsTagged 3 IsKeyValue bytes p

-- the region and the content of an item, read after s entry bytes
abbrev pub IsItem : ℕ → List ℕ → Item → Type 0
IsItem s bytes item = IsFollowedBy IsVarint (λ _. IsContent s) bytes item.raft_group_id item.content

-- how many entry bytes there are up to the end of these entries, which come after s of them
abbrev pub end_behind : ℕ → List EntryIndex → ℕ
end_behind s [] = s
end_behind s (e ∷ es) = end_behind (tail_of e) es

-- how many entry bytes there are up to the end of a content, which comes after s of them
abbrev pub end_of_content : ℕ → Content → ℕ
end_of_content s (entries es) = end_behind s es
end_of_content s _ = s
