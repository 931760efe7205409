use Rattle.raft_report.proofs.Common.{drop, string_bytes}
use Rattle.raft_report.proofs.ItemLemmas.{AreJoining}
use Rattle.raft_report.proofs.json_items.append_entry_list.Given as goal

abbrev pub invariant-loop-entry : goal.invariant-loop-entry
invariant-loop-entry l = AreJoining l.selection l.part l.entries (string_bytes l.fn.text) (drop l.entry-index l.entries) l.later (string_bytes l.text)
