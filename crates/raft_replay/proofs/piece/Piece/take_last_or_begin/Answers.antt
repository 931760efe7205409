use Rattle.raft_replay.proofs.Common.{sym, Piece, covers, one_fewer}
use Rattle.raft_replay.proofs.piece.Piece.take_last_or_begin.Goals as goal

pub returns-then-number-last-clause-covered : goal.returns-then-number-last-clause-covered
returns-then-number-last-clause-covered g c x =
    sym (one_fewer (λ (p : Piece g.row.M.Denot). covers p.from p.count x) c.args.pieces.now.items c.pop.new.self.items c.in-Some.last c.in-Some.ensures.items)
