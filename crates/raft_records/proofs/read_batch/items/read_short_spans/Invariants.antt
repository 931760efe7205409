use Rattle.raft_records.proofs.Common.{◌≡◌, ℕ, ◌+◌, ◌^◌, ◌<◌, ◌≤◌, vec_len, vec_capacity, span_of}
use Rattle.raft_records.proofs.ReadBatchLemmas.{AreKeptSoFar}
use Rattle.raft_records.proofs.read_batch.items.read_short_spans.Given as goal

-- one span for each turn, and behind them comes the offset; there is room for all
abbrev pub invariant-loop : goal.invariant-loop
invariant-loop l =
    ((first : ℕ) → first + l.count < 2 ^ 64 → AreKeptSoFar span_of first l.start l.bytes l.rest l.fn.spans.items l.spans.items
    (first + l.counter) l.offset l.counter) × (vec_len l.spans ≡ vec_len l.fn.spans + l.counter) ×
    (vec_len l.fn.spans + l.count ≤ vec_capacity l.spans)
