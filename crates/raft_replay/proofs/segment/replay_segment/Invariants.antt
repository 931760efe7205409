use Rattle.raft_replay.proofs.Common.{take, HasReplayed}
use Rattle.raft_replay.proofs.Words.{PartsHold}
use Rattle.raft_replay.proofs.segment.replay_segment.Given as goal

abbrev pub invariant-loop-part : goal.invariant-loop-part
invariant-loop-part g l =
    HasReplayed (PartsHold (take l.part-index l.fn.segment.items)) g.M.ReplayMachine.stands_for g.M.ReplayMachine.stands_exactly l.fn.machine l.machine
