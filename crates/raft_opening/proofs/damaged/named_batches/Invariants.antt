use Rattle.raft_opening.proofs.Common.{take, AreNamed}
use Rattle.raft_opening.proofs.damaged.named_batches.Given as goal

abbrev pub invariant-loop-offset : goal.invariant-loop-offset
invariant-loop-offset l = AreNamed l.file (take l.offset-index l.offsets) l.batches.items
