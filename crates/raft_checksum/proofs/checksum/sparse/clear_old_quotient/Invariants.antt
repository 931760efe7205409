-- The bytes are zeros as far as the loop has come.
use Rattle.raft_checksum.specs.SparseMultiple.{AreZeros, StartsAlike}
use Rattle.raft_checksum.proofs.checksum.sparse.clear_old_quotient.Given as goal

abbrev pub invariant-loop-k : goal.invariant-loop-k
invariant-loop-k l = record {
  before : StartsAlike 300 l.fn.quotient l.quotient;
  zeros : AreZeros 300 l.k l.quotient;
}
