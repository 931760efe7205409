use Rattle.raft_records.proofs.Common.{arith, get_or_default, map_over_more, placed_entry}
use Rattle.raft_records.proofs.entry_indexes.EntryIndexes.set_places.Goals as goal

pub loop-entry-preserved : goal.loop-entry-preserved
loop-entry-preserved c =
    map_over_more (placed_entry c.args.handle c.args.compression_type) c.args.self.now.0.items c.loop-entry.entry-items c.loop-entry.entry-index _
    (omega arith) c.loop-entry.invariant (get_or_default c.loop-entry.entry-items c.loop-entry.entry-index _ _ (omega arith))
