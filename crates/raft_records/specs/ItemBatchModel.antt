-- A batch of items as its list of items.
use Rattle.std.specs.Prelude.{List, IfSome, map}
use Rattle.raft_records.specs.declared.log_item_batch.LogItemBatch.TheInside.{Inside}
use Rattle.raft_records.specs.Item.{Item, item_of}
use Rattle.raft_records.specs.ItemBatch.{IsKeptBeside}
use Rattle.raft_records.specs.DecodedIn.{AreDecodedIn}

-- the items of the batch, as plain values
abbrev pub items_in : Inside → List Item
items_in b = map item_of b.items.items

-- the items fit together; what is kept beside them is theirs; where a file is kept, they are as they may stand there
abbrev pub IsWellFormed : Inside → Type 0
IsWellFormed b = IsKeptBeside (items_in b) b.item_size b.entries_size b.checksum × IfSome b.decoded_in (λ file. AreDecodedIn file (items_in b))
