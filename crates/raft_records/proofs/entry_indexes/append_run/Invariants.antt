use Rattle.raft_records.proofs.Common.{◌≡◌, ◌++◌, take, varint, tails_bytes}
use Rattle.raft_records.proofs.entry_indexes.append_run.Given as goal

-- the first index and the tail offsets so far stand behind the old bytes
abbrev pub invariant-loop-entry : goal.invariant-loop-entry
invariant-loop-entry l =
    l.buf.items ≡ l.fn.buf.items ++ (varint l.first ++ tails_bytes (take l.entry-index l.entries))
