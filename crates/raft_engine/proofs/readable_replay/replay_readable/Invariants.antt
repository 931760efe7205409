use Rattle.raft_engine.proofs.Common.{◌-◌, ◌≤◌, length, part_of, HasReplayed, IsHistoryUpTo}
use Rattle.raft_engine.proofs.readable_replay.replay_readable.Given as goal

abbrev pub invariant-loop-next : goal.invariant-loop-next
invariant-loop-next g l = record {
  inside : l.at ≤ length l.bytes;
  read : HasReplayed (IsHistoryUpTo (part_of l.file l.offset l.bytes) l.at) g.M.ReplayMachine.stands_for g.M.ReplayMachine.stands_exactly l.fn.machine l.machine;
}

abbrev pub decreases-loop-next : goal.decreases-loop-next
decreases-loop-next g l = length l.bytes - l.at
