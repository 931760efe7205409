-- Approximate sizes of items, in bytes: eight for each number, one for each type.
use Rattle.std.specs.Prelude.{ℕ, ◌+◌, ◌-◌, ◌*◌, ◌^◌, ◌<◌, min, List, [], ◌∷◌, length, Option, Some, None}
use Rattle.raft_base.specs.declared.entry_index.EntryIndex.{EntryIndex}
use Rattle.raft_records.specs.declared.command.Command.{Command}
use Rattle.raft_records.specs.declared.command.Command.TheVariants.{Clean, Compact, Truncate}
use Rattle.raft_records.specs.Item.{Item, Content, entries, command, pair, Pair}

-- the count, the first index where there are entries, and each tail offset
abbrev pub entries_size : List EntryIndex → ℕ
entries_size [] = 8
entries_size (e ∷ es) = 8 + 8 + 8 * length (e ∷ es)

-- the type, and the index of a compaction or a truncation
abbrev pub command_size : Command → ℕ
command_size Clean = 1
command_size (Compact index) = 1 + 8
command_size (Truncate index) = 1 + 8

-- how many bytes a value has
abbrev pub value_length : Option (List ℕ) → ℕ
value_length None = 0
value_length (Some value) = length value

-- the op type, and key and value with their lengths
abbrev pub pair_size : Pair → ℕ
pair_size p = 1 + 8 + length p.key + 8 + value_length p.value

-- what there is after the type
abbrev pub content_size : Content → ℕ
content_size (entries es) = entries_size es
content_size (command c) = command_size c
content_size (pair p) = pair_size p

-- the region, the type and the content
abbrev pub item_size : Item → ℕ
item_size item = 8 + 1 + content_size item.content

-- the items one after the other
abbrev pub items_size : List Item → ℕ
items_size [] = 0
items_size (item ∷ items) = item_size item + items_size items

-- capped at the greatest usize
abbrev pub at_most_usize : ℕ → ℕ
at_most_usize n = min n (2 ^ 64 - 1)

-- the count, the items and the checksum
abbrev pub item_batch_size : List Item → ℕ
item_batch_size items = 8 + items_size items + 4

-- ---- numbers that eight bytes are enough for

-- the indexes are below 2^56
abbrev pub AreSmallIndexes : List EntryIndex → Type 0
AreSmallIndexes [] = Unit {0}
AreSmallIndexes (e ∷ es) = (e.index < 2 ^ 56) × AreSmallIndexes es

-- the index of a compaction or a truncation is below 2^56
abbrev pub HasSmallIndex : Command → Type 0
HasSmallIndex Clean = Unit {0}
HasSmallIndex (Compact index) = index < 2 ^ 56
HasSmallIndex (Truncate index) = index < 2 ^ 56

-- the indexes of a content are below 2^56
abbrev pub HasSmallIndexes : Content → Type 0
HasSmallIndexes (entries es) = AreSmallIndexes es
HasSmallIndexes (command c) = HasSmallIndex c
HasSmallIndexes (pair p) = Unit {0}

-- the region ids and the indexes are below 2^56
abbrev pub HaveSmallNumbers : List Item → Type 0
HaveSmallNumbers [] = Unit {0}
HaveSmallNumbers (item ∷ items) = (item.raft_group_id < 2 ^ 56) × HasSmallIndexes item.content × HaveSmallNumbers items
