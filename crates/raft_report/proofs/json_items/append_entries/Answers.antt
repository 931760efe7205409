use Rattle.raft_report.proofs.Common.{◌≡◌, ◌++◌, ℕ, ap, ◌∙◌, rules, Some, slice_get, string_bytes, index_members, trailed}
use Rattle.raft_report.proofs.ItemLemmas.{entries_added, no_entries_added}
use Rattle.raft_report.proofs.json_items.append_entries.Goals as goal

pub returns-in_default-clause-ok : goal.returns-in_default-clause-ok
returns-in_default-clause-ok c = no_entries_added c.args.selection.now c.args.part.now c.args.entries.now (string_bytes c.args.text.now) (string_bytes c.push_str.new.self) (search rules) c.in_ok-push_str.ensures.bytes

pub returns-clause-ok : goal.returns-clause-ok
returns-clause-ok c =
    let is : Some c.in-Some.first.now ≡ slice_get c.args.entries.now 0 = search rules in
    entries_added c.args.selection.now c.args.part.now c.args.entries.now c.in-Some.first.now (string_bytes c.args.text.now) (string_bytes c.append_block_offset.new.text) (string_bytes c.append_entries_if_asked.new.text)
    (string_bytes c.append_index_members.new.text) (string_bytes c.append_block_length.new.text) (string_bytes c.append_entries_word.new.text) is c.in_ok-append_block_offset.ensures c.in_ok-append_entries_if_asked.ensures.ok
    (c.in_ok-append_index_members.ensures ∙ ap (λ (n : ℕ). string_bytes c.append_entries_if_asked.new.text ++ trailed (index_members c.in-Some.first.now.index n)) c.last_index.ensures)
    c.in_ok-append_block_length.ensures c.in_ok-append_entries_word.ensures
