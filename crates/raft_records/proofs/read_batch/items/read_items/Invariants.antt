use Rattle.raft_records.proofs.ReadBatchLemmas.{AreItemsSoFar}
use Rattle.raft_records.proofs.read_batch.items.read_items.Given as goal

-- one item for each turn, and behind their entries comes the offset
abbrev pub invariant-loop : goal.invariant-loop
invariant-loop l = AreItemsSoFar l.bytes l.rest l.items.items l.spans.items l.offset l.counter
