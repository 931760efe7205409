use Rattle.std.proofs.Common.{◌≡◌}
use Rattle.raft_records.specs.LogBatch.{is_open}
use Rattle.raft_group_crashes.proofs.store.rewriting.put_all_pairs.Given as goal

abbrev pub invariant-loop-pair : goal.invariant-loop-pair
invariant-loop-pair l = l.batch.stage ≡ is_open
