use Rattle.std.proofs.Common.{◌≡◌}
use Rattle.raft_records.specs.LogBatch.{is_open}
use Rattle.raft_group_crashes.proofs.store.rewriting.add_tombstones.Given as goal

abbrev pub invariant-loop-item : goal.invariant-loop-item
invariant-loop-item l = l.batch.stage ≡ is_open
