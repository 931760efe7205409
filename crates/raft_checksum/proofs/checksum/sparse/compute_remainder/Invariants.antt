-- The remainder stands as far as the loop has come.
use Rattle.std.proofs.Common.{◌≡◌, ℕ, ◌+◌, ◌<◌, bit_xor, get_or}
use Rattle.raft_checksum.proofs.checksum.sparse.compute_remainder.Given as goal

abbrev pub invariant-loop-k : goal.invariant-loop-k
invariant-loop-k l = (k : ℕ) → k < l.k
    → get_or l.remainder k 0 ≡ bit_xor (bit_xor (bit_xor (bit_xor (get_or l.bytes k 0) (get_or l.quotient (k + 155) 0)) (get_or l.quotient (k + 117) 0)) (get_or l.quotient (k + 89) 0)) (get_or l.quotient k 0)
