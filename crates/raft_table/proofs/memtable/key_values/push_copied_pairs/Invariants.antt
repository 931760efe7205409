use Rattle.raft_table.proofs.Facts.{◌≡◌, ◌≤◌, ◌++◌, filter, length, map, take, is_up_to, pairs_shown}
use Rattle.raft_table.proofs.memtable.key_values.push_copied_pairs.Given as goal

abbrev pub invariant-loop-key : goal.invariant-loop-key
invariant-loop-key l = record {
  pushed : pairs_shown l.vec.items ++ map (λ e. (e.0.items, e.1.value.items)) (filter (λ e. is_up_to l.queue l.gate e.1.file) l.key-iterator)
      ≡ pairs_shown l.initial.vec.items ++ map (λ e. (e.0.items, e.1.value.items)) (filter (λ e. is_up_to l.queue l.gate e.1.file) l.pairs.entries);
  kept : take (length l.initial.vec.items) l.vec.items ≡ l.initial.vec.items;
  grown : length l.initial.vec.items ≤ length l.vec.items;
}
