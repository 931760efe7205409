use Rattle.raft_accessor.proofs.Common.{map, drop, item_of, known_extents}
use Rattle.raft_accessor.proofs.AppendCheckLemmas.{IsCheck}
use Rattle.raft_accessor.proofs.region_tables.RegionTables.check_append_items.Given as goal

abbrev pub invariant-loop-item : goal.invariant-loop-item
invariant-loop-item l = IsCheck (known_extents l.check.extents) l.fn.self (map item_of l.fn.items) (map item_of (drop l.item-index l.items))
