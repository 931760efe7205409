use Rattle.raft_records.proofs.Common.{◌≡◌, ◌≤◌, length, vec_len, vec_capacity}
use Rattle.raft_records.proofs.CopyLemmas.{IsSoFar}
use Rattle.raft_records.proofs.read_batch.entries_from_spans.Given as goal

-- the run so far, which has one entry for each span that was seen, and room for all
abbrev pub invariant-loop-entry_offset : goal.invariant-loop-entry_offset
invariant-loop-entry_offset l =
    IsSoFar l.first l.index l.entry_offset-index l.place l.spans l.run.items × (vec_len l.run ≡ l.entry_offset-index) × (length l.spans ≤ vec_capacity l.run)
