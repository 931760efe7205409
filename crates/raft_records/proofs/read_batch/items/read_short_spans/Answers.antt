use Rattle.raft_records.proofs.Common.{◌+◌, ◌++◌, ◌∷◌, [], ◌-◌, ℕ, refl, arith, subst, span_of}
use Rattle.raft_records.proofs.ReadBatchLemmas.{AreKeptSoFar, one_more_kept, tails_read}
use Rattle.raft_records.proofs.read_batch.items.read_short_spans.Goals as goal

pub loop-preserved : goal.loop-preserved
loop-preserved c =
    let so = c.loop.invariant in
    let tail = c.in-Some.tail in (
      λ first bound. rw c.push_reserved.ensures.items
          (subst (λ (i : ℕ). AreKeptSoFar span_of first c.args.start c.args.bytes.now c.in-Some.behind.now c.args.spans.now.items
          (c.loop.spans.items ++ (c.loop.offset, tail - c.loop.offset) ∷ []) i tail (c.loop.counter + 1)) (omega arith)
          (one_more_kept (so.0 first bound) c.in-Some.ensures.ends (c.in-Some.ensures.read (first + c.loop.counter) (omega (arith, bound, c.loop-test.true))) refl)),
      omega (arith, c.push_reserved.ensures.len, so.1),
      omega (arith, c.push_reserved.ensures.capacity, so.2),
    )

pub returns-clause-some : goal.returns-clause-some
returns-clause-some c = λ first bound. tails_read (omega (arith, c.loop-test.false)) (c.loop.invariant.0 first bound)
