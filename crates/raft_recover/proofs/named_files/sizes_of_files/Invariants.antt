use Rattle.std.proofs.Common.{◌≡◌, ◌++◌, map, drop}
use Rattle.raft_recover.proofs.named_files.sizes_of_files.Given as goal

-- the numbers of the sizes so far, and of the files that are left, are the numbers of all
abbrev pub invariant-loop-seq : goal.invariant-loop-seq
invariant-loop-seq g l = map (λ size. size.seq) l.sizes.items ++ map (λ file. file.0) (drop l.seq-index l.paths) ≡ map (λ file. file.0) l.paths
