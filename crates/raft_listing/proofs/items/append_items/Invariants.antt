use Rattle.raft_listing.proofs.Common.{map, drop, string_bytes, item_of}
use Rattle.raft_listing.proofs.TextLemmas.{AreItemsAdding}
use Rattle.raft_listing.proofs.items.append_items.Given as goal

abbrev pub invariant-loop-item : goal.invariant-loop-item
invariant-loop-item l = AreItemsAdding l.selection l.part (map item_of l.items) (string_bytes l.fn.text) (map item_of (drop l.item-index l.items)) (string_bytes l.text)
