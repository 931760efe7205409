use Rattle.raft_records.proofs.Common.{short_is_read}
use Rattle.raft_records.proofs.ReadBatchLemmas.{held_item}
use Rattle.raft_records.proofs.read_batch.items.read_short_item.Goals as goal

pub returns-clause-some : goal.returns-clause-some
returns-clause-some c =
    held_item (short_is_read c.args.bytes.now c.in_ok-region.behind.now c.in_ok-region.region c.in_ok-region.ensures.some) c.in_ok-content.ensures.some c.push_reserved.ensures.items
