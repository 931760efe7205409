use Rattle.raft_ffi.proofs.Common.{◌≡◌, ◌++◌, drop, pairs_shown, bytes_of, lengths_of}
use Rattle.raft_ffi.proofs.pair_calls.copy_pairs.Given as goal

-- the lengths and the bytes so far and those of the pairs that are left make up the whole
abbrev pub invariant-loop-pair : goal.invariant-loop-pair
invariant-loop-pair l =
    (l.all_lens.items ++ lengths_of (pairs_shown (drop l.pair-index l.pairs)) ≡ lengths_of (pairs_shown l.pairs))
    × (l.all_bytes.items ++ bytes_of (pairs_shown (drop l.pair-index l.pairs)) ≡ bytes_of (pairs_shown l.pairs))
