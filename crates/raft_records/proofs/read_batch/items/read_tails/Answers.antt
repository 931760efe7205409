use Rattle.raft_records.proofs.Common.{◌-◌, ◌≤◌, ◌<◌, arith, inr, length, leb-true, at_exit, Reads, IsTail, entry_between}
use Rattle.raft_records.proofs.EntryLemmas.{no_more_tails, tail_fault}
use Rattle.raft_records.proofs.ReadBatchLemmas.{one_more_kept, tails_read}
use Rattle.raft_records.proofs.read_batch.items.read_tails.Goals as goal
use Rattle.raft_records.proofs.read_batch.items.read_tails.Goals.{in-Some, in-None+in_ok-tail-in-None}

pub returns-in_err-tail-in-None-clause-refused : goal.returns-in_err-tail-in-None-clause-refused
returns-in_err-tail-in-None-clause-refused g c =
    let so = c.loop.invariant.0 in
    at_exit c.from_residual-in_err-tail-in-None.result c.from_residual-in_err-tail-in-None.ensures.1 (λ _ _ ne. no_more_tails c.args.count so.so_far (omega (arith, so.counted)) c.in_err-tail-in-None.ensures.refused)

pub returns-in_err-tail-in-None-clause-fault : goal.returns-in_err-tail-in-None-clause-fault
returns-in_err-tail-in-None-clause-fault g c =
    let so = c.loop.invariant.0 in
    at_exit c.from_residual-in_err-tail-in-None.result c.from_residual-in_err-tail-in-None.ensures.1 (λ _ is. rw is (inr (tail_fault (c.args.count - c.loop.counter - 1) so.so_far (omega (arith, so.counted))
    c.in_err-tail-in-None.ensures.fault)))

pub loop-preserved : goal.loop-preserved
loop-preserved g c =
    let so = c.loop.invariant in
    let tail = c.match-parse_short_tail.tail in
    let r : Reads (IsTail (c.loop.index, c.loop.offset)) c.loop.rest.now tail.1.now (entry_between c.loop.index c.loop.offset tail.0)
    × (c.loop.offset ≤ tail.0) × (length tail.1.now < length c.loop.rest.now) = elim c.match-parse_short_tail.branch [
      | in-Some w ↦ rw w.tail-is (
        w.in-Some.ensures.read c.loop.index
            (let b : c.args.count ≤ 18446744073709551615 - c.args.first = leb-true _ _ w.in-Some.ensures.bounded in omega (arith, b, so.4, c.loop-test.true)),
        w.in-Some.ensures.ends,
        w.in-Some.ensures.shorter,
      )
      | in-None+in_ok-tail-in-None w ↦ rw w.tail-is (w.in_ok-tail-in-None.ensures.ok, w.in_ok-tail-in-None.ensures.ends, w.in_ok-tail-in-None.ensures.shorter)
    ] in (
      rw c.push_reserved.ensures.items (one_more_kept so.0 r.1 r.0 c.from_tail.ensures),
      omega (arith, c.push_reserved.ensures.len, so.1),
      omega (arith, c.push_reserved.ensures.capacity, so.2),
      omega (arith, so.3, r.2),
      omega (arith, so.4),
    )

pub returns-clause-ok : goal.returns-clause-ok
returns-clause-ok g c = tails_read (omega (arith, c.loop-test.false)) c.loop.invariant.0
