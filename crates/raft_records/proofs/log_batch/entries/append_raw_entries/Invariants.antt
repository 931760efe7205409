use Rattle.raft_records.proofs.StringLemmas.{IsStringing}
use Rattle.raft_records.proofs.log_batch.entries.append_raw_entries.Given as goal

abbrev pub invariant-loop-i : goal.invariant-loop-i
invariant-loop-i l = IsStringing (λ e. e.items) l.fn.entry_indexes.items l.entries l.i l.fn.buf.items l.buf.items l.entry_indexes.items
