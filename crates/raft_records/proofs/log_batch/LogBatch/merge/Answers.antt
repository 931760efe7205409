use Rattle.raft_records.proofs.Common.{◌≡◌, ◌+◌, ◌^◌, ◌<◌, ◌++◌, arith, entry_bytes_of, stage_of, entry_bytes_in, IsHeld}
use Rattle.raft_records.proofs.StageLemmas.{joined_held, joined_view, open_of}
use Rattle.raft_records.proofs.log_batch.LogBatch.merge.Goals as goal

-- the batch holds the items and the entry bytes of both
held : (c : goal.After-move_entry_bytes) →
    IsHeld (stage_of c.self.inside.state) c.merge.new.self (entry_bytes_in c.merge.new.self c.move_entry_bytes.new.buf.items)
    c.move_entry_bytes.new.buf.items ×
    (entry_bytes_in c.merge.new.self c.move_entry_bytes.new.buf.items ≡ entry_bytes_in c.self.inside.item_batch
    c.self.inside.buf.items ++ entry_bytes_in c.rhs.inside.item_batch c.rhs.inside.buf.items)
held c =
    let bytes = rw c.reserve_for_entry_bytes.ensures.same at c.move_entry_bytes.ensures.joined in
    let fits : entry_bytes_of c.self.inside.item_batch + entry_bytes_of c.rhs.inside.item_batch < 2 ^ 31 = omega (
      arith,
      c.entries_size.ensures,
      c.from-own.ensures,
      c.entries_size-2.ensures,
      c.from-others.ensures,
      c.if-own-others-gt-MAX_LOG_ENTRIES_SIZE_PER_BATCH.false,
    ) in
    joined_held (open_of c.self.view_is c.requires.open) (open_of c.rhs.view_is c.requires.rhs_open) c.self.invariant c.rhs.invariant fits c.in_ok-merge.ensures.ok bytes

pub invariant_of-self-2 : goal.invariant_of-self-2
invariant_of-self-2 c = (held c).0

pub returns-clause-ok : goal.returns-clause-ok
returns-clause-ok c = joined_view c.self.view_is c.rhs.view_is c.self.invariant.whole c.in_ok-merge.ensures.ok (held c).1
