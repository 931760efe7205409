-- Items whose numbers are those of their types, as the numbers of every item in memory are.
use Rattle.std.specs.Prelude.{ℕ, ◌^◌, ◌<◌, List, [], ◌∷◌, length, Option, Some, None}
use Rattle.raft_records.specs.declared.command.Command.{Command}
use Rattle.raft_records.specs.declared.command.Command.TheVariants.{Clean, Compact, Truncate}
use Rattle.raft_records.specs.Item.{Item, Content, entries, command, pair}

-- a command's index is a u64
abbrev pub HasIndex : Command → Type 0
HasIndex Clean = Unit {0}
HasIndex (Compact index) = index < 2 ^ 64
HasIndex (Truncate index) = index < 2 ^ 64

-- a value's length is a u64
abbrev pub HasLength : Option (List ℕ) → Type 0
HasLength None = Unit {0}
HasLength (Some value) = length value < 2 ^ 64

-- the count of entries, a command's index, and key's and value's lengths are u64s, as those of every content in memory
abbrev pub IsContentInRange : Content → Type 0
IsContentInRange (entries es) = length es < 2 ^ 64
IsContentInRange (command c) = HasIndex c
IsContentInRange (pair p) = (length p.key < 2 ^ 64) × HasLength p.value

-- the numbers of an item are u64s
abbrev pub IsInRange : Item → Type 0
IsInRange item = (item.raft_group_id < 2 ^ 64) × IsContentInRange item.content

-- each item is in range
abbrev pub AreInRange : List Item → Type 0
AreInRange [] = Unit {0}
AreInRange (item ∷ items) = IsInRange item × AreInRange items
