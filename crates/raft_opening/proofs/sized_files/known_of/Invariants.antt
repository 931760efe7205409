use Rattle.raft_opening.proofs.Common.{◌≡◌, take, numbers_of}
use Rattle.raft_opening.proofs.sized_files.known_of.Given as goal

abbrev pub invariant-loop-file : goal.invariant-loop-file
invariant-loop-file l = l.closed.items ≡ numbers_of (take l.file-index l.rest)
