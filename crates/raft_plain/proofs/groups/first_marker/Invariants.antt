use Rattle.raft_plain.proofs.Common.{drop, map, item_of}
use Rattle.raft_plain.proofs.MarkerLemmas.{IsTested}
use Rattle.raft_plain.proofs.groups.first_marker.Given as goal

abbrev pub invariant-loop-item : goal.invariant-loop-item
invariant-loop-item l = IsTested (map item_of l.items) (map item_of (drop l.item-index l.items)) l.marker
