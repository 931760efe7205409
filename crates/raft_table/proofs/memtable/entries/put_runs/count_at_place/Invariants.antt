use Rattle.raft_table.proofs.Facts.{◌≡◌, ◌≤◌, ◌<◌, ℕ, slice_index_or, Some, EntryIndex}
use Rattle.raft_table.proofs.memtable.entries.put_runs.count_at_place.Given as goal

abbrev pub invariant-loop-i : goal.invariant-loop-i
invariant-loop-i l = (j : ℕ) (d : EntryIndex) → l.at ≤ j → j < l.i → (slice_index_or l.run j d).entries ≡ Some l.handle
