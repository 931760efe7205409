use Rattle.raft_listing.proofs.Common.{◌≡◌, rules, Some, slice_get, string_bytes, on_ok_weaker}
use Rattle.raft_listing.proofs.TextLemmas.{entries_text}
use Rattle.raft_listing.proofs.items.append_entries.Goals as goal

pub returns-clause-ok : goal.returns-clause-ok
returns-clause-ok c =
    let is : Some c.in-Some.first.now ≡ slice_get c.args.entries.now 0 = search rules in
    on_ok_weaker c.append_entry_lines_if_asked.result
    (λ added. entries_text c.args.selection.now c.args.part.now c.args.entries.now c.in-Some.first.now (string_bytes c.args.text.now) (string_bytes c.append_entries_line.new.text) (string_bytes c.append_entry_lines_if_asked.new.text)
    is c.in_ok-append_entries_line.ensures added) c.append_entry_lines_if_asked.ensures.ok
