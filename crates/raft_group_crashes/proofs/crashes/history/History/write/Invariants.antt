use Rattle.std.proofs.Common.{◌≡◌}
use Rattle.raft_records.specs.LogBatch.{is_open}
use Rattle.raft_group_crashes.proofs.crashes.history.History.write.Given as goal

abbrev pub invariant-loop : goal.invariant-loop
invariant-loop g l = l.batch.stage ≡ is_open
