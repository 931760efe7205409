use Rattle.raft_size.proofs.Common.{◌≡◌, ◌<◌, ℕ, true, get_or, is_number_character}
use Rattle.raft_size.proofs.size_text.number_prefix_len.Given as goal

abbrev pub invariant-loop-len : goal.invariant-loop-len
invariant-loop-len l = (k : ℕ) → k < l.len → is_number_character (get_or l.text k 0) ≡ true
