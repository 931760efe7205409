use Rattle.raft_reading.proofs.Common.{◌≤◌}
use Rattle.raft_reading.proofs.queue_files.count_files_of_share.Given as goal

abbrev pub invariant-loop-file : goal.invariant-loop-file
invariant-loop-file l = l.count ≤ l.file-index
