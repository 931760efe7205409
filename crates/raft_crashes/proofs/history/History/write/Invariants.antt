use Rattle.std.proofs.Common.{◌≡◌}
use Rattle.raft_records.specs.LogBatch.{is_open}
use Rattle.raft_crashes.proofs.history.History.write.Given as goal

abbrev pub invariant-loop-choice : goal.invariant-loop-choice
invariant-loop-choice g l = l.batch.stage ≡ is_open
