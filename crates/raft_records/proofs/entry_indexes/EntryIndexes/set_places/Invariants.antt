use Rattle.raft_records.proofs.Common.{◌≡◌, ◌++◌, map, take, drop, placed_entry}
use Rattle.raft_records.proofs.entry_indexes.EntryIndexes.set_places.Given as goal

-- the entries so far have their place
abbrev pub invariant-loop-entry : goal.invariant-loop-entry
invariant-loop-entry l =
    l.entry-items ≡ map (placed_entry l.handle l.compression_type) (take l.entry-index l.fn.self.0.items) ++ drop l.entry-index l.fn.self.0.items
