use Rattle.raft_engine.proofs.Common.{drop, map, item_of}
use Rattle.raft_engine.proofs.MarkerLemmas.{IsMarkerAhead}
use Rattle.raft_engine.proofs.group_rows.first_marker_of_items.Given as goal

abbrev pub invariant-loop-item : goal.invariant-loop-item
invariant-loop-item l = IsMarkerAhead (map item_of l.items) (map item_of (drop l.item-index l.items))
