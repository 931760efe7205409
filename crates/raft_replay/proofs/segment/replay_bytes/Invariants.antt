use Rattle.raft_replay.proofs.Common.{◌-◌, ◌≤◌, length, part_of, HasReplayed}
use Rattle.raft_replay.proofs.StopLemmas.{IsFront}
use Rattle.raft_replay.proofs.segment.replay_bytes.Given as goal

abbrev pub invariant-loop-next : goal.invariant-loop-next
invariant-loop-next g l = record {
  inside : l.at ≤ length l.bytes;
  read : HasReplayed (IsFront (part_of l.file l.offset l.bytes) l.at) g.M.ReplayMachine.stands_for g.M.ReplayMachine.stands_exactly l.fn.machine l.machine;
}

abbrev pub decreases-loop-next : goal.decreases-loop-next
decreases-loop-next g l = length l.bytes - l.at
