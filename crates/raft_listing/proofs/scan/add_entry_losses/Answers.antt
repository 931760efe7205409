use Rattle.raft_listing.proofs.Common.{◌+◌, List, drop, subst, drop_more, drop_all, on_ok_weaker}
use Rattle.raft_listing.proofs.LossLemmas.{AreSaying, all_entries_said, entry_said}
use Rattle.raft_listing.proofs.scan.add_entry_losses.Goals as goal

pub loop-entry-preserved : goal.loop-entry-preserved
loop-entry-preserved c =
    entry_said c.args.part.now c.args.offset c.args.region c.args.entries.now c.args.damages.now.items c.loop-entry.stretch c.in_ok-stretch.stretch _ (drop (c.loop-entry.entry-index + 1) c.args.entries.now) c.in_ok-loss.loss
    c.loop-entry.damages.items c.extend_or_end_stretch.new.damages.items
    (subst (λ (l : List _). AreSaying c.args.part.now c.args.offset c.args.region c.args.entries.now c.args.damages.now.items c.loop-entry.stretch l c.loop-entry.damages.items)
    (drop_more c.args.entries.now c.loop-entry.entry-index _ c.loop-entry-test.true) c.loop-entry.invariant)
    c.in_ok-loss.ensures.ok c.in_ok-stretch.ensures.ok

pub returns-clause-ok : goal.returns-clause-ok
returns-clause-ok c =
    on_ok_weaker c.add_stretch.result
    (λ told. all_entries_said c.args.part.now c.args.offset c.args.region c.args.entries.now c.args.damages.now.items c.loop-entry.stretch c.loop-entry.damages.items c.add_stretch.new.damages.items
    (subst (λ (l : List _). AreSaying c.args.part.now c.args.offset c.args.region c.args.entries.now c.args.damages.now.items c.loop-entry.stretch l c.loop-entry.damages.items)
    (drop_all c.loop-entry.entry-index c.args.entries.now c.loop-entry-test.false) c.loop-entry.invariant) told)
    c.add_stretch.ensures.ok
