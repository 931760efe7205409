-- Log items as plain values: what they hold, without where it lies in memory.
use Rattle.std.specs.Prelude.{◌≡◌, ℕ, List, [], ◌∷◌, map, Option, None}
use Rattle.std.specs.Option.{option_map}
use Rattle.raft_base.specs.declared.pipe_log.FileId.{FileId}
use Rattle.raft_base.specs.declared.compression_type.CompressionType.TheVariants as compressions
use Rattle.raft_base.specs.declared.entry_index.EntryIndex.{EntryIndex}
use Rattle.raft_records.specs.declared.command.Command.{Command}
use Rattle.raft_records.specs.declared.key_value.OpType.{OpType}
use Rattle.raft_records.specs.declared.key_value.OpType.TheVariants.{Put, Del}
use Rattle.raft_records.specs.declared.key_value.KeyValue.{KeyValue}
use Rattle.raft_records.specs.declared.log_item.LogItem.{LogItem}
use Rattle.raft_records.specs.declared.log_item.LogItemContent.{LogItemContent}
use Rattle.raft_records.specs.declared.log_item.LogItemContent.TheVariants as contents

-- a change of one key
pub record Pair : Type 0 where
  pub op_type : OpType
  pub key : List ℕ
  pub value : Option (List ℕ)
  pub file_id : Option FileId

-- what an item changes
pub data Content : Type 0 where
  entries : List EntryIndex → Content
  command : Command → Content
  pair : Pair → Content

-- what is said of one region; of a group marker the id is that of the group
pub record Item : Type 0 where
  pub raft_group_id : ℕ
  pub content : Content

-- a change of a key, as a plain value
abbrev pub pair_of : KeyValue → Pair
pair_of kv = record { op_type = kv.op_type; key = kv.key.items; value = option_map (λ v. v.items) kv.value; file_id = kv.file_id }

-- a content, as a plain value
abbrev pub content_of : LogItemContent → Content
content_of (contents.EntryIndexes es) = entries es.0.items
content_of (contents.Command c) = command c
content_of (contents.Kv kv) = pair (pair_of kv)

-- an item, as a plain value
abbrev pub item_of : LogItem → Item
item_of item = record { raft_group_id = item.raft_group_id; content = content_of item.content }

-- an entry without its place and compression type
abbrev pub bare_entry : EntryIndex → EntryIndex
bare_entry e = record e { entries = None; compression_type = compressions.None }

-- the value that is written: a Del has none
abbrev pub written_value : OpType → Option (List ℕ) → Option (List ℕ)
written_value Put value = value
written_value Del value = None

-- a change of a key without what its bytes don't hold
abbrev pub bare_pair : Pair → Pair
bare_pair p = record p { value = written_value p.op_type p.value; file_id = None }

-- a content without what its bytes don't hold
abbrev pub bare_content : Content → Content
bare_content (entries es) = entries (map bare_entry es)
bare_content (command c) = command c
bare_content (pair p) = pair (bare_pair p)

-- an item without what its bytes don't hold: places, compression types, files, and a Del's value
abbrev pub bare : Item → Item
bare item = record item { content = bare_content item.content }

-- entries of a region
abbrev pub entries_item : ℕ → List EntryIndex → Item
entries_item region es = record { raft_group_id = region; content = entries es }

-- a command on the log of a region
abbrev pub command_item : ℕ → Command → Item
command_item region c = record { raft_group_id = region; content = command c }

-- a change of a key of a region, whose file is not known
abbrev pub pair_item : ℕ → OpType → List ℕ → Option (List ℕ) → Item
pair_item region op_type key value = record { raft_group_id = region; content = pair (record { op_type = op_type; key = key; value = value; file_id = None }) }

-- the value of a change of a key is the one that its bytes hold, so a Del has none
abbrev pub IsInBytes : Content → Type 0
IsInBytes (entries es) = Unit {0}
IsInBytes (command c) = Unit {0}
IsInBytes (pair p) = written_value p.op_type p.value ≡ p.value

-- the value of each item's change of a key is the one that its bytes hold
abbrev pub AreInBytes : List Item → Type 0
AreInBytes [] = Unit {0}
AreInBytes (item ∷ items) = IsInBytes item.content × AreInBytes items
