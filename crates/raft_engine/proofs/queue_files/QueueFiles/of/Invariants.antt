use Rattle.raft_engine.proofs.Common.{◌≡◌, map, take, file_shown, numbers}
use Rattle.raft_engine.proofs.queue_files.QueueFiles.of.Given as goal

abbrev pub invariant-loop-seq : goal.invariant-loop-seq
invariant-loop-seq l = l.closed.items ≡ numbers (map file_shown (take l.seq-index l.rest))
