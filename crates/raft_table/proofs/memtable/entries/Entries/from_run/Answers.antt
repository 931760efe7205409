use Rattle.raft_table.proofs.Facts.{◌+◌, ◌∙◌, AreTableEntries-take, has_place, group_of}
use Rattle.raft_table.proofs.memtable.entries.Entries.from_run.Goals as goal

pub unreachable-requires : goal.unreachable-requires
unreachable-requires c = has_place c.args.run.now c.loop-at.at _ c.requires c.loop-at-test.true c.in_default.is

pub push_entry_block-requires-clause-table_entries : goal.push_entry_block-requires-clause-table_entries
push_entry_block-requires-clause-table_entries c =
    rw (
      c.loop-at.invariant.0,
      c.in_ok-spans.ensures.ok,
      (group_of c.args.run.now c.loop-at.at c.count_at_place.result c.in-Some.handle _ c.requires c.count_at_place.ensures.within c.loop-at-test.true
          c.count_at_place.ensures.all),
    ) (AreTableEntries-take (c.loop-at.at + c.count_at_place.result) c.args.run.now c.requires)

pub loop-at-preserved : goal.loop-at-preserved
loop-at-preserved c = (
  c.in_ok-push_entry_block.ensures.ok
      ∙ rw (c.loop-at.invariant.0, c.in_ok-spans.ensures.ok)
      (group_of c.args.run.now c.loop-at.at c.count_at_place.result c.in-Some.handle _ c.requires c.count_at_place.ensures.within c.loop-at-test.true
      c.count_at_place.ensures.all),
  c.count_at_place.ensures.within,
)
