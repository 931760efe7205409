use Rattle.raft_replay.proofs.Common.{◌≡◌, ◌+◌, ◌≤◌, switches, count_below}
use Rattle.raft_replay.proofs.scheduled.piece_count.Given as goal

abbrev pub invariant-loop-n : goal.invariant-loop-n
invariant-loop-n l = record { counted : l.pieces ≡ count_below (switches l.draws) l.n + 1; few : l.pieces ≤ l.n }
