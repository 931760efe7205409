use Rattle.raft_records.proofs.Common.{map, item_of}
use Rattle.raft_records.proofs.BatchLemmas.{placed_kept}
use Rattle.raft_records.proofs.log_item_batch.LogItemBatch.set_places.Goals as goal

pub invariant_of-self : goal.invariant_of-self
invariant_of-self c =
    rw c.set_item_places.ensures (placed_kept c.args.handle c.args.compression_type (map item_of c.self.inside.items.items) c.self.inside.item_size c.self.inside.entries_size c.self.inside.checksum c.self.invariant.0, tt)
