-- A batch as it is read, as its list of items.
use Rattle.std.specs.Prelude.{◌≡◌, List, length}
use Rattle.raft_records.specs.declared.read_batch.ReadBatch.TheInside.{Inside}
use Rattle.raft_records.specs.Item.{Item}
use Rattle.raft_records.specs.ItemBatch.{FitTogether}
use Rattle.raft_records.specs.ReadBatch.{items_shown, spans_of}

-- the items that the parts show
abbrev pub items_in : Inside → List Item
items_in b = items_shown b.place b.items.items b.spans.items

-- each run has its spans, and the items fit together
pub record IsWellFormed (b : Inside) : Type 0 where
  pub whole : spans_of b.items.items ≡ length b.spans.items
  pub fit : FitTogether 0 (items_in b)
