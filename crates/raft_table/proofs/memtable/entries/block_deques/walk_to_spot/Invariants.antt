use Rattle.raft_table.proofs.Facts.{◌≡◌, ◌+◌, ◌-◌, length, take, blocks_shown, count}
use Rattle.raft_table.proofs.memtable.entries.block_deques.walk_to_spot.Given as goal

-- the blocks that were walked have the entries that were counted off
abbrev pub invariant-loop-rest : goal.invariant-loop-rest
invariant-loop-rest l = count (take l.nth (blocks_shown l.blocks.items)) + l.rest ≡ l.behind

abbrev pub decreases-loop-rest : goal.decreases-loop-rest
decreases-loop-rest l = length l.blocks.items - l.nth
