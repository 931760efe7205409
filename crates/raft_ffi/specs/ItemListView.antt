-- A list of items as plain values.
use Rattle.std.specs.Prelude.{List, map}
use Rattle.raft_ffi.specs.declared.item_list.ItemList.TheInside.{Inside}
use Rattle.raft_records.specs.Item.{Item, item_of}

-- the items, as plain values
abbrev pub items_in : Inside → List Item
items_in list = map item_of list.items.items
