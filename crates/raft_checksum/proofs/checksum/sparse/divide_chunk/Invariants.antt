-- The quotient stands as far as the loop has come, behind the bytes that were there.
use Rattle.raft_checksum.proofs.Common.{◌≡◌, ℕ, ◌+◌, ◌<◌, bit_xor, get_or, StartsAlike}
use Rattle.raft_checksum.proofs.checksum.sparse.divide_chunk.Given as goal

abbrev pub invariant-loop-k : goal.invariant-loop-k
invariant-loop-k l = record {
  quotient : (k : ℕ) → k < l.k
      → get_or l.quotient (k + 300) 0 ≡ bit_xor (bit_xor (bit_xor (bit_xor (get_or l.bytes k 0) (get_or l.quotient (k + 155) 0)) (get_or l.quotient (k + 117) 0)) (get_or l.quotient (k + 89) 0)) (get_or l.quotient k 0);
  before : StartsAlike 300 l.fn.quotient l.quotient;
}
