-- The quotient's last bytes stand for the register.
use Rattle.std.proofs.Common.{ℕ, ◌<◌, ◌≤◌, get_or, length}
use Rattle.raft_checksum.proofs.BlockLemmas.{Stands}
use Rattle.raft_checksum.proofs.checksum.sparse.update_by_chunks.Given as goal

abbrev pub invariant-loop-rest : goal.invariant-loop-rest
invariant-loop-rest l = record {
  long : 300 ≤ length l.rest;
  bytes : (k : ℕ) → get_or l.rest k 0 < 256;
  stands : Stands l.quotient l.rest l.fn.register l.bytes;
}

abbrev pub decreases-loop-rest : goal.decreases-loop-rest
decreases-loop-rest l = length l.rest
