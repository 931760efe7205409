use Rattle.raft_replay.proofs.Common.{◌≡◌, ◌+◌, ◌*◌, ◌≤◌, List, reverse, vec_len, leaves, ArePlansNext, cost, weigh}
use Rattle.raft_replay.proofs.pieces.take_oldest_piece.Given as goal

abbrev pub invariant-loop-plan : goal.invariant-loop-plan
invariant-loop-plan g l = record {
  few : leaves l.plan ≤ vec_len l.fn.pieces;
  next :
      (all : List g.row.M.Denot) → ArePlansNext g.M.ReplayMachine.stands_for g.M.ReplayMachine.stands_exactly all l.fn.plan (reverse l.fn.waiting.items) (reverse l.fn.pieces.items)
      → ArePlansNext g.M.ReplayMachine.stands_for g.M.ReplayMachine.stands_exactly all l.plan (reverse l.waiting.items) (reverse l.fn.pieces.items);
  spent : weigh cost l.waiting.items + 2 * leaves l.plan ≡ weigh cost l.fn.waiting.items + 2 * leaves l.fn.plan;
}
