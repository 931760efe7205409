use Rattle.raft_plain.proofs.Common.{◌≡◌, ◌+◌, ◌*◌, ◌^◌, ◌≤◌, length}
use Rattle.raft_plain.proofs.LiveLemmas.{live_regions}
use Rattle.raft_plain.proofs.live.count_live.Given as goal

abbrev pub invariant-loop-region : goal.invariant-loop-region
invariant-loop-region l = record {
  counted : l.count + live_regions l.queue l.region-iterator ≡ live_regions l.queue l.initial.region-iterator;
  bounded : l.count + 2 ^ 65 * length l.region-iterator ≤ 2 ^ 65 * length l.initial.region-iterator;
}
