-- What an item says: without its lists, in numbers, and its lists.
use Rattle.std.specs.Prelude.{◌≡◌, ℕ, List, length, Option, Some, None, slice_get}
use Rattle.std.specs.Option.{option_and_then}
use Rattle.raft_base.specs.declared.entry_index.EntryIndex.{EntryIndex}
use Rattle.raft_records.specs.declared.command.Command.{Command}
use Rattle.raft_records.specs.declared.command.Command.TheVariants as commands
use Rattle.raft_records.specs.declared.key_value.OpType.{OpType}
use Rattle.raft_records.specs.declared.key_value.OpType.TheVariants as operations
use Rattle.raft_records.specs.Item.{Item, Content, entries, command, pair}
use Rattle.raft_ffi.specs.declared.item_list.ItemHead.{ItemHead}

-- the number of a command
abbrev pub command_kind : Command → ℕ
command_kind commands.Clean = 1
command_kind (commands.Compact index) = 2
command_kind (commands.Truncate index) = 3

-- the number of a change of a key
abbrev pub pair_kind : OpType → ℕ
pair_kind operations.Put = 4
pair_kind operations.Del = 5

-- the number of what an item says
abbrev pub kind_of : Content → ℕ
kind_of (entries es) = 0
kind_of (command c) = command_kind c
kind_of (pair p) = pair_kind p.op_type

-- the index of a command; 0 without one
abbrev pub command_index : Command → ℕ
command_index commands.Clean = 0
command_index (commands.Compact index) = index
command_index (commands.Truncate index) = index

-- how many entries there are, or the index of a command
abbrev pub number_of : Content → ℕ
number_of (entries es) = length es
number_of (command c) = command_index c
number_of (pair p) = 0

-- the numbers are those of the item
pub record IsHeadOf (item : Item) (head : ItemHead) : Type 0 where
  pub region : head.region ≡ item.raft_group_id
  pub kind : head.kind ≡ kind_of item.content
  pub number : head.number ≡ number_of item.content

-- the entries of a content, if it has some
abbrev pub entries_in : Content → Option (List EntryIndex)
entries_in (entries es) = Some es
entries_in (command c) = None
entries_in (pair p) = None

-- the key of a content, if it changes one
abbrev pub key_in : Content → Option (List ℕ)
key_in (entries es) = None
key_in (command c) = None
key_in (pair p) = Some p.key

-- the value of a content, if it puts one
abbrev pub value_in : Content → Option (List ℕ)
value_in (entries es) = None
value_in (command c) = None
value_in (pair p) = p.value

-- the entries of an item, if there is one and it has some
abbrev pub entries_at : List Item → ℕ → Option (List EntryIndex)
entries_at items i = option_and_then (λ item. entries_in item.content) (slice_get items i)

-- the key of an item, if there is one and it changes a key
abbrev pub key_at : List Item → ℕ → Option (List ℕ)
key_at items i = option_and_then (λ item. key_in item.content) (slice_get items i)

-- the value of an item, if there is one and it puts a value
abbrev pub value_at : List Item → ℕ → Option (List ℕ)
value_at items i = option_and_then (λ item. value_in item.content) (slice_get items i)
