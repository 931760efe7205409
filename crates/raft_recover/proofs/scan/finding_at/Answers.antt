use Rattle.raft_recover.proofs.Common.{arith}
use Rattle.raft_recover.proofs.scan.finding_at.Goals as goal

pub batch_finding-requires : goal.batch_finding-requires
batch_finding-requires c = rw c.in-Ok-Some.field-0-is at c.in-Ok-Some.ensures.ok

pub unreachable-requires : goal.unreachable-requires
unreachable-requires c = let end = rw c.in-Ok-None.field-0-is at c.in-Ok-None.ensures.ok in omega (arith, end, c.requires)
