use Rattle.raft_replay.proofs.Common.{◌≡◌, ℕ, ◌-◌, ◌<◌, All, length, IsPieceOf, cover_count, AreBelow, IsSeatOf, occurrences}
use Rattle.raft_replay.proofs.CoverLemmas.{bound}
use Rattle.raft_replay.proofs.workers.replay_drawn_segments.Given as goal

abbrev pub invariant-loop-number : goal.invariant-loop-number
invariant-loop-number g l = record {
  of_tickets : IsSeatOf l.tickets l.seat;
  below : AreBelow (length l.segments) l.seat.drawn;
  each : All (IsPieceOf g.M.ReplayMachine.stands_exactly l.segments) l.pieces.items;
  covered : (x : ℕ) → x < length l.segments → cover_count x l.pieces.items ≡ occurrences x l.seat.drawn;
}

abbrev pub decreases-loop-number : goal.decreases-loop-number
decreases-loop-number g l = length l.segments - bound l.seat.drawn
