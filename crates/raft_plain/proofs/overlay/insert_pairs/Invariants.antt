use Rattle.raft_plain.proofs.Common.{◌≡◌, map, pairs_over, with_pairs, keys_shown, stored_shown}
use Rattle.raft_plain.proofs.overlay.insert_pairs.Given as goal

abbrev pub invariant-loop-key : goal.invariant-loop-key
invariant-loop-key l = with_pairs (keys_shown l.keys) (map (λ e. (e.0.items, stored_shown e.1)) l.key-iterator) ≡ pairs_over (keys_shown l.fn.newer) (keys_shown l.fn.keys)
