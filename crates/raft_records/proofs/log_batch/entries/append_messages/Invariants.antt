use Rattle.raft_records.proofs.Common.{◌≡◌, ◌≤◌, length, vec_len, vec_capacity}
use Rattle.raft_records.proofs.StringLemmas.{AreLaid}
use Rattle.raft_records.proofs.log_batch.entries.append_messages.Given as goal

-- the entries so far are laid, and there is room for the others
abbrev pub invariant-loop-entry : goal.invariant-loop-entry
invariant-loop-entry g l = record {
  laid : AreLaid g.M.MessageExt.index_of g.M.Entry.Message.bytes_of l.entries l.entry-index l.fn.buf.items l.buf.items l.entry_indexes.items;
  len : vec_len l.entry_indexes ≡ l.entry-index;
  places : length l.entries ≤ vec_capacity l.entry_indexes;
}
