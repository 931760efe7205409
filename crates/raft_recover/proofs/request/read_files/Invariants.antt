use Rattle.std.proofs.Common.{◌≡◌, ◌++◌, map, drop}
use Rattle.raft_recover.proofs.request.read_files.Given as goal

-- the numbers of the files so far, and of those that are left, are the numbers of all
abbrev pub invariant-loop-seq : goal.invariant-loop-seq
invariant-loop-seq g l = map (λ file. file.0) l.files.items ++ map (λ file. file.0) (drop l.seq-index l.named) ≡ map (λ file. file.0) l.named
