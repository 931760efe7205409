use Rattle.raft_engine.proofs.Common.{take, HasReplayed, SegmentsHold}
use Rattle.raft_engine.proofs.GroupRowLemmas.{Summed}
use Rattle.raft_engine.proofs.groups.check_groups.Given as goal

abbrev pub invariant-loop-segment : goal.invariant-loop-segment
invariant-loop-segment l = HasReplayed (SegmentsHold (take l.segment-index l.segments)) Summed Summed l.initial.rows l.rows
