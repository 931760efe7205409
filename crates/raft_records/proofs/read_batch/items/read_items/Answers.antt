use Rattle.raft_records.proofs.Common.{◌-◌, arith, inl, inr, at_exit}
use Rattle.raft_records.proofs.BatchLemmas.{no_more_items, item_fault}
use Rattle.raft_records.proofs.ReadBatchLemmas.{one_more_held}
use Rattle.raft_records.proofs.read_batch.items.read_items.Goals as goal
use Rattle.raft_records.proofs.read_batch.items.read_items.Goals.{in-Some, in-None+in_ok-end-in-None}

pub returns-in_err-end-in-None-clause-refused : goal.returns-in_err-end-in-None-clause-refused
returns-in_err-end-in-None-clause-refused c =
    let so = c.loop.invariant in
    at_exit c.from_residual-in_err-end-in-None.result c.from_residual-in_err-end-in-None.ensures.1 (λ _ is. rw is (λ ne. no_more_items c.args.bytes.now c.loop.rest.now so.read c.loop.offset
    c.args.count so.reads so.ends (omega (arith, so.counted)) (c.in_err-end-in-None.ensures.refused ne)))

pub returns-in_err-end-in-None-clause-fault : goal.returns-in_err-end-in-None-clause-fault
returns-in_err-end-in-None-clause-fault c =
    let so = c.loop.invariant in
    at_exit c.from_residual-in_err-end-in-None.result c.from_residual-in_err-end-in-None.ensures.1 (λ _ is. rw is (elim (c.in_err-end-in-None.ensures.fault) [
      | inl memory ↦ inl memory
      | inr fault ↦ item_fault c.args.bytes.now c.loop.rest.now so.read c.loop.offset c.args.count (c.args.count - c.loop.counter - 1) _ so.reads so.ends (omega (arith, so.counted)) fault
    ]))

pub loop-preserved : goal.loop-preserved
loop-preserved c =
    let so = c.loop.invariant in
    elim c.match-read_short_item.branch [
      | in-Some w ↦ rw (w.items-is, w.spans-is, w.end-is) (one_more_held c.args.bytes.now c.loop.rest.now _ c.loop.items.items _ c.loop.spans.items _ c.loop.offset _ c.loop.counter so w.in-Some.ensures.some)
      | in-None+in_ok-end-in-None w ↦ rw (w.items-is, w.spans-is, w.end-is)
          (one_more_held c.args.bytes.now c.loop.rest.now _ c.loop.items.items _ c.loop.spans.items _ c.loop.offset _ c.loop.counter so
          (rw (← w.in-None.ensures.items, ← w.in-None.ensures.spans) w.in_ok-end-in-None.ensures.ok))
    ]
