use Rattle.raft_engine.proofs.Common.{map, drop, file_shown, numbers}
use Rattle.raft_engine.proofs.FileNumbers.{AreReadUpTo}
use Rattle.raft_engine.proofs.found.check_numbers.Given as goal

abbrev pub invariant-loop-seq : goal.invariant-loop-seq
invariant-loop-seq l = AreReadUpTo (numbers (map file_shown l.fn.files.items)) l.last (numbers (map file_shown (drop l.seq-index l.rest)))
