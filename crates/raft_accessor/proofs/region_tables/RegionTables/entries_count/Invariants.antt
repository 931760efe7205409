use Rattle.raft_accessor.proofs.Common.{Append, Rewrite, ◌≡◌, ◌≤◌, ◌+◌, ◌*◌, ◌^◌, length, Table, live_of}
use Rattle.std.specs.FinMap as finite
use Rattle.raft_accessor.proofs.TotalSums.{added}
use Rattle.raft_accessor.proofs.region_tables.RegionTables.entries_count.Given as goal

-- what was counted and the entries that are left are all; the records that were seen are entries and key values
abbrev pub invariant-loop-table : goal.invariant-loop-table
invariant-loop-table l =
    (l.count + added (λ (t : Table). length t.entries) l.table-iterator ≡ added (λ (t : Table). length t.entries) l.initial.table-iterator)
    × (l.count + length l.table-iterator * 2 ^ 64 ≤ length l.initial.table-iterator * 2 ^ 64)
    × (l.count + added (λ (t : Table). finite.len t.keys) l.initial.table-iterator + added (live_of Append) l.table-iterator + added (live_of Rewrite) l.table-iterator
    ≡ added (λ (t : Table). finite.len t.keys) l.table-iterator + added (live_of Append) l.initial.table-iterator + added (live_of Rewrite) l.initial.table-iterator)
