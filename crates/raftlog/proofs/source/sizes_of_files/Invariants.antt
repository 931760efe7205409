use Rattle.raftlog.proofs.SourceLemmas.{AreSoFar}
use Rattle.raftlog.proofs.source.sizes_of_files.Given as goal

abbrev pub invariant-loop-path : goal.invariant-loop-path
invariant-loop-path g l = AreSoFar l.paths l.path-index l.sizes.items
