-- What is written is read again.
use Rattle.std.specs.Prelude.{ℕ, ◌^◌, ◌<◌, List, [], ◌++◌, length, map, Option}
use Rattle.raft_records.specs.Item.{Item, bare}
use Rattle.raft_records.specs.Range.{IsInRange, AreInRange}
use Rattle.raft_records.specs.Grammar.{IsItem}
use Rattle.raft_records.specs.Spelling.{item_bytes}
use Rattle.raft_records.specs.ItemBatch.{FitsBehind, FitTogether, IsItemBatch, item_batch_bytes, checksum_bytes}

-- what is written of an item is a spelling of it, without what bytes don't hold
abbrev pub ItemIsSpelled : Type 0
ItemIsSpelled = (s : ℕ) (item : Item) → FitsBehind s item.content → IsInRange item → IsItem s (item_bytes item) (bare item)

-- what is written and signed of a batch is an item batch of its items, with nothing left over
abbrev pub ItemBatchIsSpelled : Type 0
ItemBatchIsSpelled =
    (signature : Option ℕ) (items : List Item) → FitTogether 0 items → AreInRange items → length items < 2 ^ 64 → IsItemBatch (item_batch_bytes items ++ checksum_bytes signature (item_batch_bytes items)) signature (map bare items) []
