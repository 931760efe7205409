use Rattle.raft_table.proofs.Facts.{◌≡◌, ◌≤◌, LogQueue, pair_count, removed}
use Rattle.raft_table.proofs.MarkExact.{bytes_of}
use Rattle.raft_table.proofs.memtable.deleted_keys.remove_keys_from.Given as goal

abbrev pub invariant-loop-key : goal.invariant-loop-key
invariant-loop-key l = record {
  after : removed (bytes_of l.key-iterator) l.keys ≡ removed (bytes_of l.deleted.entries) l.initial.keys;
  fewer : (q : LogQueue) → pair_count q l.keys ≤ pair_count q l.initial.keys;
}
