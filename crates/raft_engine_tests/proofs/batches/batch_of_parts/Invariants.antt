use Rattle.std.proofs.Common.{◌≡◌}
use Rattle.raft_records.specs.LogBatch.{is_open}
use Rattle.raft_engine_tests.proofs.batches.batch_of_parts.Given as goal

abbrev pub invariant-loop-part : goal.invariant-loop-part
invariant-loop-part l = l.batch.stage ≡ is_open
