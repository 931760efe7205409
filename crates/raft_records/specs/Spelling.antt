-- The bytes that encoders write: of each number the shortest spelling.
use Rattle.std.specs.Prelude.{◌≡◌, ℕ, List, [], ◌∷◌, ◌++◌, length, Option, Some, None}
use Rattle.std.specs.List.{flat_map}
use Rattle.raft_codec.specs.Varint.{varint}
use Rattle.raft_base.specs.declared.entry_index.EntryIndex.{EntryIndex}
use Rattle.raft_records.specs.declared.command.Command.{Command}
use Rattle.raft_records.specs.declared.command.Command.TheVariants.{Clean, Compact, Truncate}
use Rattle.raft_records.specs.declared.key_value.OpType.{OpType}
use Rattle.raft_records.specs.declared.key_value.OpType.TheVariants.{Put}
use Rattle.raft_records.specs.Item.{Item, Content, entries, command, pair, Pair}
use Rattle.raft_records.specs.Entries.{AreWritable}
use Rattle.raft_records.specs.Grammar.{op_type_byte, tail_of}

-- the old bytes stand in front of the new ones
pub record Keeps (old new : List ℕ) : Type 0 where
  pub behind : List ℕ
  pub split : new ≡ old ++ behind

-- the type byte, and the index of a compaction or a truncation
abbrev pub command_bytes : Command → List ℕ
command_bytes Clean = 1 ∷ []
command_bytes (Compact index) = 2 ∷ varint index
command_bytes (Truncate index) = 3 ∷ varint index

-- a length, and that many bytes
abbrev pub byte_string : List ℕ → List ℕ
byte_string text = varint (length text) ++ text

-- a Put has a value
abbrev pub IsWritableWith : OpType → Option (List ℕ) → Type 0
IsWritableWith Put None = ⊥
IsWritableWith _ _ = Unit {0}

-- a Put of a pair has a value
abbrev pub IsWritablePair : Pair → Type 0
IsWritablePair p = IsWritableWith p.op_type p.value

-- after the key a Put has its value
abbrev pub value_bytes : OpType → Option (List ℕ) → List ℕ
value_bytes Put (Some value) = byte_string value
value_bytes _ _ = []

-- the op type byte, the key, and a Put's value
abbrev pub pair_bytes : Pair → List ℕ
pair_bytes p = op_type_byte p.op_type ∷ byte_string p.key ++ value_bytes p.op_type p.value

-- the tail offset of each entry
abbrev pub tails_bytes : List EntryIndex → List ℕ
tails_bytes es = flat_map (λ e. varint (tail_of e)) es

-- after the count come the first index and the tail offsets, where there are entries
abbrev pub run_bytes : List EntryIndex → List ℕ
run_bytes [] = []
run_bytes (e ∷ es) = varint e.index ++ tails_bytes (e ∷ es)

-- the count, and the run
abbrev pub entries_bytes : List EntryIndex → List ℕ
entries_bytes es = varint (length es) ++ run_bytes es

-- an item's type byte and its content
abbrev pub content_bytes : Content → List ℕ
content_bytes (entries es) = 1 ∷ entries_bytes es
content_bytes (command c) = 2 ∷ command_bytes c
content_bytes (pair p) = 3 ∷ pair_bytes p

-- an item's bytes
abbrev pub item_bytes : Item → List ℕ
item_bytes item = varint item.raft_group_id ++ content_bytes item.content

-- what can be written: a run of entries whose bytes run on, a Put with a value
abbrev pub IsWritableContent : Content → Type 0
IsWritableContent (entries es) = AreWritable es
IsWritableContent (command c) = Unit {0}
IsWritableContent (pair p) = IsWritablePair p

-- an item whose content can be written
abbrev pub IsWritable : Item → Type 0
IsWritable item = IsWritableContent item.content
