use Rattle.raft_replay.proofs.Common.{◌≡◌, take, vec_len, IsUnderway, switches, count_below}
use Rattle.raft_replay.proofs.scheduled.replay_in_order.Given as goal

abbrev pub invariant-loop-n : goal.invariant-loop-n
invariant-loop-n g l = record {
  line : IsUnderway g.M.ReplayMachine.stands_exactly (take l.n l.segments) l.machines.items l.current;
  count : vec_len l.machines ≡ count_below (switches l.draws) l.n;
}
