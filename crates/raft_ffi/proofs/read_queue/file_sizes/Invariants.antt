use Rattle.raft_ffi.proofs.Common.{◌≡◌, ◌++◌, map, drop, size_in}
use Rattle.raft_ffi.proofs.read_queue.file_sizes.Given as goal

-- the sizes so far and those that are left make up the whole
abbrev pub invariant-loop-size : goal.invariant-loop-size
invariant-loop-size l =
    l.found.items ++ map size_in (drop l.size-index l.sizes) ≡ map size_in l.sizes
