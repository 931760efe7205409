use Rattle.raft_listing.proofs.Common.{map, drop, item_of}
use Rattle.raft_listing.proofs.LossLemmas.{IsSaying}
use Rattle.raft_listing.proofs.scan.add_batch_losses.Given as goal

abbrev pub invariant-loop-item : goal.invariant-loop-item
invariant-loop-item l = IsSaying l.part l.offset (map item_of l.items) l.fn.damages.items (map item_of (drop l.item-index l.items)) l.damages.items
