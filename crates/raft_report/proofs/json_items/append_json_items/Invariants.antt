use Rattle.raft_report.proofs.Common.{map, drop, string_bytes, item_of}
use Rattle.raft_report.proofs.AddedLemmas.{AreItemsAdding}
use Rattle.raft_report.proofs.json_items.append_json_items.Given as goal

abbrev pub invariant-loop-item : goal.invariant-loop-item
invariant-loop-item l = AreItemsAdding l.selection l.part l.at (map item_of l.items) (string_bytes l.fn.text) (map item_of (drop l.item-index l.items)) (string_bytes l.text)
