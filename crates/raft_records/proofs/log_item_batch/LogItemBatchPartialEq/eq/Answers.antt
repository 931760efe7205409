use Rattle.raft_records.proofs.EqualLemmas.{items_compared, exactly}
use Rattle.raft_records.proofs.log_item_batch.LogItemBatchPartialEq.eq.Goals as goal

pub returns-clause-tested : goal.returns-clause-tested
returns-clause-tested c =
    items_compared c.self.inside.items.items c.other.inside.items.items c.args.self.now c.args.other.now c.eq.result c.self.view_is c.other.view_is (rw (← c.as_slice.ensures.value, ← c.as_slice-2.ensures.value) c.eq.ensures)

pub returns-clause-exact : goal.returns-clause-exact
returns-clause-exact c =
    exactly c.args.self.now c.args.other.now c.eq.result
    (items_compared c.self.inside.items.items c.other.inside.items.items c.args.self.now c.args.other.now c.eq.result c.self.view_is
    c.other.view_is (rw (← c.as_slice.ensures.value, ← c.as_slice-2.ensures.value) c.eq.ensures))
