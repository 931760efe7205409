use Rattle.raft_plain.proofs.Common.{◌≡◌, ◌+◌, ◌≤◌, length}
use Rattle.raft_plain.proofs.LiveLemmas.{in_queue}
use Rattle.raft_plain.proofs.live.count_keys.Given as goal

abbrev pub invariant-loop-stored : goal.invariant-loop-stored
invariant-loop-stored l = record {
  counted : l.count + length (in_queue l.queue l.stored-iterator) ≡ length (in_queue l.queue l.initial.stored-iterator);
  bounded : l.count + length l.stored-iterator ≤ length l.initial.stored-iterator;
}
