use Rattle.raft_replay.proofs.Common.{reverse, IsReached, cost, weigh}
use Rattle.raft_replay.proofs.pieces.merge_one_by_one.Given as goal

abbrev pub invariant-loop-next : goal.invariant-loop-next
invariant-loop-next g l = IsReached g.M.ReplayMachine.stands_for g.M.ReplayMachine.stands_exactly l.fn.pieces.items (reverse l.waiting.items) (reverse l.pieces.items) l.merged

abbrev pub decreases-loop-next : goal.decreases-loop-next
decreases-loop-next g l = weigh cost l.waiting.items
