use Rattle.std.proofs.Common.{◌≡◌, ◌≤◌, ◌+◌, ◌*◌, ◌^◌, length, map, drop}
use Rattle.raft_table.specs.Table.{Table}
use Rattle.raft_accessor.specs.Slots.{slot_entries}
use Rattle.raft_accessor.proofs.TotalSums.{added}
use Rattle.raft_accessor.proofs.accessor.MemTableAccessor.tables_count.Given as goal

abbrev pub invariant-loop-slot : goal.invariant-loop-slot
invariant-loop-slot l =
    (l.count + added (λ (t : Table). 1) (map (λ e. e.1) (slot_entries (drop l.slot-index l.slot-items))) ≡ added (λ (t : Table). 1) (map (λ e. e.1) (slot_entries l.slot-items)))
    × (l.count + l.slot-index ≤ l.slot-index * 2 ^ 64) × (length l.slot-items ≡ 128) × (l.slot-index ≤ 128)
