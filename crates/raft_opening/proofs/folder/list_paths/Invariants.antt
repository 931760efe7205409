use Rattle.raft_opening.proofs.Common.{map, AreSizesOf, path_shown}
use Rattle.raft_opening.proofs.folder.list_paths.Given as goal

abbrev pub invariant-loop-file : goal.invariant-loop-file
invariant-loop-file g l = AreSizesOf (map path_shown l.paths.items) l.sizes.items
