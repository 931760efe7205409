use Rattle.raft_records.proofs.CopyLemmas.{AreCopied}
use Rattle.raft_records.proofs.read_batch.ReadBatch.to_batch.Given as goal

-- the items so far, and what the items that are left show with the spans that are left, are the whole
abbrev pub invariant-loop-item : goal.invariant-loop-item
invariant-loop-item l = AreCopied l.self-inside.place l.item-items l.item-index l.spans l.batch l.self
