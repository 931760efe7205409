use Rattle.raft_contexts.proofs.Common.{sym}
use Rattle.raft_contexts.proofs.ReadTakenLemmas.{put_taken}
use Rattle.raft_contexts.proofs.marked_tables.MarkedTables.try_apply_put.Goals as goal

pub returns : goal.returns
returns c = λ q spans.
    rw (c.in-Put.is, sym c.if-is_reserved.ensures.value)
    (put_taken q c.args.item.now.region c.in-Put.key.now c.in-Put.value.now c.args.place.id c.args.self.now c.try_put.new.self c.try_put.result (c.try_put.ensures.taken q))
