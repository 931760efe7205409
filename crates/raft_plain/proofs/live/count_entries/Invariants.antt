use Rattle.raft_plain.proofs.Common.{◌≡◌, ◌+◌, ◌≤◌, drop, entry_count}
use Rattle.raft_plain.proofs.live.count_entries.Given as goal

abbrev pub invariant-loop-entry : goal.invariant-loop-entry
invariant-loop-entry l = record {
  counted : l.count + entry_count l.queue (drop l.entry-index l.entries) ≡ entry_count l.queue l.entries;
  bounded : l.count ≤ l.entry-index;
}
