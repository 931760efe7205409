use Rattle.raft_report.proofs.Common.{◌≡◌, true, refl, rules, string_bytes, has_index, comma_if}
use Rattle.raft_report.proofs.ItemLemmas.{asked_added}
use Rattle.raft_report.proofs.json_items.append_entry_if_selected.Goals as goal

pub returns-clause-ok : goal.returns-clause-ok
returns-clause-ok c =
    let asked : has_index c.args.selection.now c.args.entry.now ≡ true = search rules in
    rw asked
    (refl, asked_added c.args.part.now c.args.entry.now c.in_ok-read.read (string_bytes c.args.text.now) (comma_if c.args.later) (string_bytes c.append_comma_if.new.text) (string_bytes c.append_entry_object.new.text) c.in_ok-read.ensures.ok c.in_ok-append_comma_if.ensures c.in_ok-append_entry_object.ensures)
