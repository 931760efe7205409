use Rattle.raft_listing.proofs.Common.{◌+◌, List, drop, subst, string_bytes, drop_more, drop_all}
use Rattle.raft_listing.proofs.TextLemmas.{AreEntriesAdding, entry_more, entries_added}
use Rattle.raft_listing.proofs.items.append_entry_lines.Goals as goal

pub loop-entry-preserved : goal.loop-entry-preserved
loop-entry-preserved c =
    entry_more c.args.selection.now c.args.part.now c.args.entries.now (string_bytes c.args.text.now) _ (drop (c.loop-entry.entry-index + 1) c.args.entries.now)
    (string_bytes c.loop-entry.text) (string_bytes c.append_entry_if_selected.new.text)
    (subst (λ (l : List _). AreEntriesAdding c.args.selection.now c.args.part.now c.args.entries.now (string_bytes c.args.text.now) l (string_bytes c.loop-entry.text))
    (drop_more c.args.entries.now c.loop-entry.entry-index _ c.loop-entry-test.true) c.loop-entry.invariant)
    c.in_ok-append_entry_if_selected.ensures.ok

pub returns-clause-ok : goal.returns-clause-ok
returns-clause-ok c =
    entries_added c.args.selection.now c.args.part.now c.args.entries.now (string_bytes c.args.text.now) (string_bytes c.loop-entry.text)
    (subst (λ (l : List _). AreEntriesAdding c.args.selection.now c.args.part.now c.args.entries.now (string_bytes c.args.text.now) l (string_bytes c.loop-entry.text))
    (drop_all c.loop-entry.entry-index c.args.entries.now c.loop-entry-test.false) c.loop-entry.invariant)
