use Rattle.raft_files.proofs.Common.{◌≡◌, ◌++◌, map, drop, file_shown}
use Rattle.raft_files.proofs.memory_files.copy_files.Given as goal

abbrev pub invariant-loop-seq : goal.invariant-loop-seq
invariant-loop-seq l =
    map file_shown l.copies.items ++ map file_shown (drop l.seq-index l.seq-items) ≡ map file_shown l.fn.files.items
