use Rattle.raft_records.proofs.Common.{◌≡◌, ◌++◌, map, take, drop, raised_entry}
use Rattle.raft_records.proofs.entry_indexes.EntryIndexes.raise_offsets.Given as goal

-- the entries so far are raised
abbrev pub invariant-loop-entry : goal.invariant-loop-entry
invariant-loop-entry l =
    l.entry-items ≡ map (raised_entry l.by) (take l.entry-index l.fn.self.0.items) ++ drop l.entry-index l.fn.self.0.items
