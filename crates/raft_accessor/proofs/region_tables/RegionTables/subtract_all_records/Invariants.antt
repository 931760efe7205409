use Rattle.raft_accessor.proofs.Common.{Append, Rewrite, ◌≡◌, ◌≤◌, ◌+◌, LogQueue, live, live_of}
use Rattle.raft_accessor.proofs.TotalSums.{added}
use Rattle.raft_accessor.proofs.region_tables.RegionTables.subtract_all_records.Given as goal

-- the tables that were seen are off the counts, and those that are left are counted
abbrev pub invariant-loop-table : goal.invariant-loop-table
invariant-loop-table l =
    ((q : LogQueue) → added (live_of q) l.table-iterator ≤ live q l.stats)
    × (l.stats.append + added (live_of Append) l.initial.table-iterator ≡ l.fn.stats.append + added (live_of Append) l.table-iterator)
    × (l.stats.written ≡ l.fn.stats.written)
    × (l.stats.deleted + added (live_of Rewrite) l.table-iterator ≡ l.fn.stats.deleted + added (live_of Rewrite) l.initial.table-iterator)
