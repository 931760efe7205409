use Rattle.raft_table.proofs.Facts.{◌≡◌, ◌≤◌, length, take, vec_len, vec_capacity, spans_of}
use Rattle.raft_table.proofs.memtable.entries.put_runs.collect_spans.Given as goal

abbrev pub invariant-loop-entry : goal.invariant-loop-entry
invariant-loop-entry l =
    (l.spans.items ≡ spans_of (take l.entry-index l.run)) × (vec_len l.spans ≡ l.entry-index) × (length l.run ≤ vec_capacity l.spans)
