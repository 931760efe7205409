use Rattle.raft_plain.proofs.Common.{◌≡◌, drop, first_entry_seq}
use Rattle.raft_plain.proofs.text.first_entry_seq.Given as goal

abbrev pub invariant-loop-entry : goal.invariant-loop-entry
invariant-loop-entry l = first_entry_seq l.queue (drop l.entry-index l.entries) ≡ first_entry_seq l.queue l.entries
