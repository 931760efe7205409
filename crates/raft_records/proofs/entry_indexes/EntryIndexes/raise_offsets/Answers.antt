use Rattle.raft_records.proofs.Common.{arith, get_or_default, map_over_more, no_entry, raised_entry}
use Rattle.raft_records.proofs.LayLemmas.{raise_fits}
use Rattle.raft_records.proofs.entry_indexes.EntryIndexes.raise_offsets.Goals as goal

pub overflow_add-entry : goal.overflow_add-entry
overflow_add-entry c =
    omega (arith, raise_fits c.args.by c.loop-entry.entry-index c.args.self.now.0.items c.loop-entry.entry-items no_entry (omega arith) c.loop-entry.invariant c.requires)

pub loop-entry-preserved : goal.loop-entry-preserved
loop-entry-preserved c =
    map_over_more (raised_entry c.args.by) c.args.self.now.0.items c.loop-entry.entry-items c.loop-entry.entry-index _ (omega arith) c.loop-entry.invariant (get_or_default c.loop-entry.entry-items c.loop-entry.entry-index _ _ (omega arith))
