use Rattle.raft_recover.proofs.Common.{take, HasRead, HasReadExactly, HasReplayed, SegmentsHold}
use Rattle.raft_recover.proofs.recovery.replay_one_by_one.Given as goal

abbrev pub invariant-loop-segment : goal.invariant-loop-segment
invariant-loop-segment l = HasReplayed (SegmentsHold (take l.segment-index l.segments)) HasRead HasReadExactly l.initial.context l.context
