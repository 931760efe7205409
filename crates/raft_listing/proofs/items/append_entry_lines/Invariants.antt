use Rattle.raft_listing.proofs.Common.{drop, string_bytes}
use Rattle.raft_listing.proofs.TextLemmas.{AreEntriesAdding}
use Rattle.raft_listing.proofs.items.append_entry_lines.Given as goal

abbrev pub invariant-loop-entry : goal.invariant-loop-entry
invariant-loop-entry l = AreEntriesAdding l.selection l.part l.entries (string_bytes l.fn.text) (drop l.entry-index l.entries) (string_bytes l.text)
