use Rattle.raft_prefix.proofs.Common.{◌-◌, ◌≤◌, length, part_of, HasReplayed, ArePassed, IsHistoryUpTo}
use Rattle.raft_prefix.proofs.readable.replay_readable.Given as goal

abbrev pub invariant-loop-next : goal.invariant-loop-next
invariant-loop-next g l = record {
  inside : l.at ≤ length l.bytes;
  passed : ArePassed l.file l.offset l.bytes l.fn.damaged.items l.damaged.items l.at;
  read : HasReplayed (IsHistoryUpTo (part_of l.file l.offset l.bytes) l.at) g.M.ReplayMachine.stands_for g.M.ReplayMachine.stands_exactly l.fn.machine l.machine;
}

abbrev pub decreases-loop-next : goal.decreases-loop-next
decreases-loop-next g l = length l.bytes - l.at
