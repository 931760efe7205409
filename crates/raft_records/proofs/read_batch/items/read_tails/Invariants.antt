use Rattle.raft_records.proofs.Common.{◌≡◌, ◌+◌, ◌≤◌, min, length, vec_len, vec_capacity}
use Rattle.raft_records.proofs.ReadBatchLemmas.{AreKeptSoFar}
use Rattle.raft_records.proofs.read_batch.items.read_tails.Given as goal

-- one entry for each turn, and behind them come the index and the offset; there is room for an entry a byte, and the indexes rise by one
abbrev pub invariant-loop : goal.invariant-loop
invariant-loop g l =
    AreKeptSoFar g.T.Kept.kept_of l.first l.start l.bytes l.rest l.fn.kept.items l.kept.items l.index l.offset l.counter ×
    (vec_len l.kept ≡ vec_len l.fn.kept + l.counter) × (vec_len l.fn.kept + min l.count (length l.bytes) ≤ vec_capacity l.kept) ×
    (l.counter + length l.rest ≤ length l.bytes) × (l.index ≡ l.first + l.counter)
