use Rattle.raft_opening.proofs.Common.{drop, numbers_of, AreReadUpTo}
use Rattle.raft_opening.proofs.sized_files.check_sizes.Given as goal

abbrev pub invariant-loop-file : goal.invariant-loop-file
invariant-loop-file l = AreReadUpTo (numbers_of l.fn.sizes) l.last (numbers_of (drop l.file-index l.rest))
