use Rattle.raft_replay.proofs.Common.{◌≡◌, ◌+◌, List, ◌++◌, All, Vec, length, vec_len, Global, Part, Worked, AreDone, Tickets, IsBack}
use Rattle.raft_replay.proofs.workers.collect_seats_and_pieces.Given as goal

abbrev pub invariant-loop-seat : goal.invariant-loop-seat
invariant-loop-seat g l = record {
  front : (gathered : List (Worked g.row.M.Denot)) × (l.fn.worked.items ≡ gathered ++ l.seat-iterator.rest.items);
  count : vec_len l.seats + length l.seat-iterator.rest.items ≡ vec_len l.fn.worked;
  done : (segments : List (Vec Part Global)) (tickets : Tickets) → All (IsBack g.M.ReplayMachine.stands_exactly segments tickets) l.fn.worked.items
      → AreDone g.M.ReplayMachine.stands_exactly segments tickets l.seats.items l.pieces.items;
}
