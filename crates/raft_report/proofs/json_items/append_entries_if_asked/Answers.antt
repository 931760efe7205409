use Rattle.raft_report.proofs.Common.{rules, string_bytes}
use Rattle.raft_report.proofs.ItemLemmas.{contents_added}
use Rattle.raft_report.proofs.json_items.append_entries_if_asked.Goals as goal

pub returns-clause-ok : goal.returns-clause-ok
returns-clause-ok c =
    contents_added c.args.selection.now c.args.part.now c.args.entries.now (string_bytes c.args.text.now) (string_bytes c.push_str.new.self) (string_bytes c.append_entry_list.new.text) (string_bytes c.push_str-2.new.self)
    (search rules) c.in_ok-push_str.ensures.bytes c.in_ok-append_entry_list.ensures.ok c.in_ok-push_str-2.ensures.bytes
