-- Batches as they are read: what their parts show.
use Rattle.std.specs.Prelude.{ℕ, ◌+◌, List, [], ◌∷◌, take, drop, Option, Some, None}
use Rattle.raft_base.specs.declared.pipe_log.FileBlockHandle.{FileBlockHandle}
use Rattle.raft_base.specs.Runs.{entries_of_block}
use Rattle.raft_records.specs.declared.key_value.OpType.{OpType}
use Rattle.raft_records.specs.declared.key_value.OpType.TheVariants as op_types
use Rattle.raft_records.specs.declared.read_batch.ReadContent.{ReadContent}
use Rattle.raft_records.specs.declared.read_batch.ReadContent.TheVariants.{Run, Command, Put, Delete}
use Rattle.raft_records.specs.declared.read_batch.ReadItem.{ReadItem}
use Rattle.raft_records.specs.Item.{Item, Content, entries, command, pair}

-- how many spans a content takes: a run one for each of its entries
abbrev pub spans_taken : ReadContent → ℕ
spans_taken (Run first count) = count
spans_taken _ = 0

-- how many spans these items take together
abbrev pub spans_of : List ReadItem → ℕ
spans_of [] = 0
spans_of (item ∷ items) = spans_taken item.content + spans_of items

-- a change of a key in the file of this place
abbrev pub pair_at : FileBlockHandle → OpType → List ℕ → Option (List ℕ) → Content
pair_at place op_type key value = pair (record { op_type = op_type; key = key; value = value; file_id = Some place.id })

-- a content: a run has one entry at the place for each of these spans; a change of a key is in the file of the place
abbrev pub content_shown : FileBlockHandle → ReadContent → List (ℕ × ℕ) → Content
content_shown place (Run first count) spans = entries (entries_of_block first place spans)
content_shown place (Command c) spans = command c
content_shown place (Put key value) spans = pair_at place op_types.Put key.now (Some value.now)
content_shown place (Delete key) spans = pair_at place op_types.Del key.now None

-- an item, whose run has these spans
abbrev pub item_shown : FileBlockHandle → ReadItem → List (ℕ × ℕ) → Item
item_shown place item spans = record { raft_group_id = item.region; content = content_shown place item.content spans }

-- the items in order: each takes its spans from the front of those that are left
abbrev pub items_shown : FileBlockHandle → List ReadItem → List (ℕ × ℕ) → List Item
items_shown place [] spans = []
items_shown place (item ∷ items) spans =
    item_shown place item (take (spans_taken item.content) spans) ∷ items_shown place items (drop (spans_taken item.content) spans)
