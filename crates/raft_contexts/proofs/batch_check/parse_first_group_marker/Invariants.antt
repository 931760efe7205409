use Rattle.raft_contexts.proofs.Common.{drop, map, item_of}
use Rattle.raft_contexts.proofs.BatchCheckLemmas.{IsTested}
use Rattle.raft_contexts.proofs.batch_check.parse_first_group_marker.Given as goal

-- the items that are left tell whether all have a status, and the marker so far or else the first one of the rest is the first of all
abbrev pub invariant-loop-item : goal.invariant-loop-item
invariant-loop-item l = IsTested (map item_of l.items) (map item_of (drop l.item-index l.items)) l.marker
