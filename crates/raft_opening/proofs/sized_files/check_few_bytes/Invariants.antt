use Rattle.raft_opening.proofs.Common.{◌≡◌, ◌+◌, ◌<◌, ◌^◌, drop, bytes_of_sizes}
use Rattle.raft_opening.proofs.sized_files.check_few_bytes.Given as goal

abbrev pub invariant-loop-file : goal.invariant-loop-file
invariant-loop-file l = record {
  bound : l.left < 2 ^ 63;
  left : bytes_of_sizes l.fn.sizes + l.left + 1 ≡ 2 ^ 63 + bytes_of_sizes (drop l.file-index l.sizes);
}
