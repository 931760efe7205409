use Rattle.raft_engine.proofs.Common.{◌≡◌, ◌<◌, ◌^◌, take, bytes_of_entries}
use Rattle.raft_engine.proofs.parts.sum_entry_bytes.Given as goal

abbrev pub invariant-loop-entry : goal.invariant-loop-entry
invariant-loop-entry l = (l.bytes ≡ bytes_of_entries (take l.entry-index l.entries)) × (l.bytes < 2 ^ 33)
