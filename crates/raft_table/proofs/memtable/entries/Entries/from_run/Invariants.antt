use Rattle.raft_table.proofs.Facts.{◌≡◌, ◌-◌, ◌≤◌, length, take}
use Rattle.raft_table.proofs.memtable.entries.Entries.from_run.Given as goal

abbrev pub invariant-loop-at : goal.invariant-loop-at
invariant-loop-at l = (l.entries ≡ take l.at l.run) × (l.at ≤ length l.run)

abbrev pub decreases-loop-at : goal.decreases-loop-at
decreases-loop-at l = length l.run - l.at
