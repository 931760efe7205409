use Rattle.raft_report.proofs.Common.{◌+◌, List, drop, subst, string_bytes, drop_more, drop_all}
use Rattle.raft_report.proofs.ItemLemmas.{AreJoining, entry_joined, all_joined}
use Rattle.raft_report.proofs.json_items.append_entry_list.Goals as goal

pub loop-entry-preserved : goal.loop-entry-preserved
loop-entry-preserved c =
    entry_joined c.args.selection.now c.args.part.now c.args.entries.now (string_bytes c.args.text.now) _ (drop (c.loop-entry.entry-index + 1) c.args.entries.now) c.loop-entry.later _
    (string_bytes c.loop-entry.text) (string_bytes c.append_entry_if_selected.new.text)
    (subst (λ (l : List _). AreJoining c.args.selection.now c.args.part.now c.args.entries.now (string_bytes c.args.text.now) l c.loop-entry.later (string_bytes c.loop-entry.text))
    (drop_more c.args.entries.now c.loop-entry.entry-index _ c.loop-entry-test.true) c.loop-entry.invariant)
    c.in_ok-later.ensures.ok

pub returns-clause-ok : goal.returns-clause-ok
returns-clause-ok c =
    all_joined c.args.selection.now c.args.part.now c.args.entries.now (string_bytes c.args.text.now) c.loop-entry.later (string_bytes c.loop-entry.text)
    (subst (λ (l : List _). AreJoining c.args.selection.now c.args.part.now c.args.entries.now (string_bytes c.args.text.now) l c.loop-entry.later (string_bytes c.loop-entry.text))
    (drop_all c.loop-entry.entry-index c.args.entries.now c.loop-entry-test.false) c.loop-entry.invariant)
