use Rattle.raft_accessor.proofs.Common.{Append, Rewrite, ◌≡◌, ◌≤◌, ◌+◌, length, drop, Table, live_of}
use Rattle.std.specs.FinMap as finite
use Rattle.raft_accessor.proofs.TotalSums.{added, tables_of}
use Rattle.raft_accessor.proofs.accessor.MemTableAccessor.totals.Given as goal

abbrev pub invariant-loop-slot : goal.invariant-loop-slot
invariant-loop-slot l =
    let all = tables_of l.slot-items in
    let rest = tables_of (drop l.slot-index l.slot-items) in
    (l.entries + added (λ (t : Table). length t.entries) rest ≡ added (λ (t : Table). length t.entries) all)
    × (l.entries + added (λ (t : Table). finite.len t.keys) all + added (live_of Append) rest + added (live_of Rewrite) rest
    ≡ added (λ (t : Table). finite.len t.keys) rest + added (live_of Append) all + added (live_of Rewrite) all)
    × (added (λ (t : Table). finite.len t.keys) rest ≤ added (λ (t : Table). finite.len t.keys) all)
    × (added (live_of Append) all + added (live_of Rewrite) all ≡ l.records)
