use Rattle.raft_records.proofs.Common.{◌++◌, ap, sym, ◌∙◌, arith, drop_of_length-le, entries_of_block, append-nil}
use Rattle.raft_records.proofs.CopyLemmas.{one_more, next_bounded}
use Rattle.raft_records.proofs.read_batch.entries_from_spans.Goals as goal

pub loop-entry_offset-init : goal.loop-entry_offset-init
loop-entry_offset-init c = (
  (ap (λ l. l ++ entries_of_block c.args.first c.args.place c.args.spans.now) c.in_ok-run.ensures.items, c.requires),
  c.in_ok-run.ensures.len,
  omega (arith, c.in_ok-run.ensures.exact),
)

pub overflow_add-index : goal.overflow_add-index
overflow_add-index c = omega (
  arith,
  next_bounded c.args.first c.loop-entry_offset.index c.loop-entry_offset.entry_offset-index c.args.place
      c.args.spans.now c.loop-entry_offset.run.items c.loop-entry_offset-test.true c.loop-entry_offset.invariant.0,
)

pub loop-entry_offset-preserved : goal.loop-entry_offset-preserved
loop-entry_offset-preserved c =
    let so = c.loop-entry_offset.invariant in (
      one_more c.args.first c.loop-entry_offset.index c.loop-entry_offset.entry_offset-index c.args.place c.args.spans.now
          c.loop-entry_offset.run.items c.push_reserved.new.self.items c.loop-entry_offset-test.true so.0 c.push_reserved.ensures.items,
      omega (arith, c.push_reserved.ensures.len, so.1),
      omega (arith, c.push_reserved.ensures.capacity, so.2),
    )

pub returns-clause-ok : goal.returns-clause-ok
returns-clause-ok c =
    sym (append-nil c.loop-entry_offset.run.items)
    ∙ ap (λ l. c.loop-entry_offset.run.items ++ entries_of_block c.loop-entry_offset.index c.args.place l) (sym (drop_of_length-le c.args.spans.now c.loop-entry_offset-test.false))
    ∙ c.loop-entry_offset.invariant.0.0
