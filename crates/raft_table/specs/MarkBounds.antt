-- A region mark without deleted keys, by its bounds.
use Rattle.raft_table.specs.declared.memtable.mark.Bounds.{Bounds}
use Rattle.raft_table.specs.Marks.{Mark}
use Rattle.raft_table.specs.MarkJoins.{fresh}

-- the region mark of these bounds that deletes no key
abbrev pub with_bounds : Bounds → Mark
with_bounds b = record fresh { cleaned = b.cleaned; reach = b.reach; reach_floor = b.reach_floor; reach_cut = b.reach_cut; barred = b.barred; floor = b.floor; cut = b.cut }
