use Rattle.raft_records.proofs.Common.{◌≡◌, ◌+◌, ◌++◌, take, drop, with_offsets_from, entry_lengths}
use Rattle.raft_records.proofs.log_item_batch.set_offsets.Given as goal

-- the entries so far are laid, and end at the offset
abbrev pub invariant-loop-entry : goal.invariant-loop-entry
invariant-loop-entry l =
    (l.entry-items ≡ with_offsets_from l.start (take l.entry-index l.fn.entries.items) ++ drop l.entry-index l.fn.entries.items) × (l.offset ≡ l.start + entry_lengths (take l.entry-index l.fn.entries.items))
