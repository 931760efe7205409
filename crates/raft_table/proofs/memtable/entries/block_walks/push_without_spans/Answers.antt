use Rattle.raft_table.proofs.Facts.{◌+◌, ◌++◌, map, take, drop, arith, sym, ap, ◌∙◌, append_assoc, map-append, entries_of_block, block_spans, blocks_shown, entries_in_blocks, without_span, block_at, IsStep, walk_step, walk_more}
use Rattle.raft_table.proofs.memtable.entries.block_walks.push_without_spans.Goals as goal

pub overflow_sub-len : goal.overflow_sub-len
overflow_sub-len c =
    let b = block_at c.args.blocks.now.items c.index-block.result.now (c.loop-done.invariant.2 c.loop-done-test.true) c.index-block.ensures in
    let w = b.inside in omega (arith, c.index-block.result.now.spans.ok)

pub push_block_without_spans-requires-clause-within : goal.push_block_without_spans-requires-clause-within
push_block_without_spans-requires-clause-within c =
    let b = block_at c.args.blocks.now.items c.index-block.result.now (c.loop-done.invariant.2 c.loop-done-test.true) c.index-block.ensures in
    let w = b.inside in omega (arith, c.index-block.result.now.spans.ok)

step : (c : goal.After-push_block_without_spans) → IsStep c.loop-done.done c.loop-done.nth c.loop-done.at c.min-count.result c.args.end (blocks_shown c.args.blocks.now.items) (block_spans c.index-block.result.now)
step c =
    let a = c.loop-done.invariant.2 c.loop-done-test.true in
    let b = block_at c.args.blocks.now.items c.index-block.result.now a c.index-block.ensures in
    walk_step c.loop-done.done c.loop-done.nth c.loop-done.at c.min-count.result c.args.end c.len.result (blocks_shown c.args.blocks.now.items) (block_spans c.index-block.result.now) a c.requires.part.distinct b.same
    (omega (arith, c.index-block.result.now.spans.ok)) c.min-count.ensures c.loop-done-test.true c.requires.part.within

pub loop-done-smaller : goal.loop-done-smaller
loop-done-smaller c = let s = step c in let p = s.some in let t = c.loop-done-test.true in omega arith

pub loop-done-preserved : goal.loop-done-preserved
loop-done-preserved c =
    let s = step c in
    let order = s.order in
    let a = c.loop-done.invariant.2 c.loop-done-test.true in
    let b = block_at c.args.blocks.now.items c.index-block.result.now a c.index-block.ensures in
    let bs = blocks_shown c.args.blocks.now.items in
    let low = c.loop-done.invariant.0 in
    let xs = drop c.args.start (take c.loop-done.done (entries_in_blocks c.args.first bs)) in
    let ys = entries_of_block (c.args.first + c.loop-done.done) c.index-block.result.now.handle (take c.min-count.result (drop c.loop-done.at c.index-block.result.now.spans.items)) in (
      omega arith,
      order,
      s.next,
      (let l = c.loop-done.invariant.3 in omega (arith, c.push_block_without_spans.ensures.len)),
      c.push_block_without_spans.ensures.capacity ∙ c.loop-done.invariant.4,
      c.push_block_without_spans.ensures.items ∙ ap (λ zs. zs ++ map without_span ys) c.loop-done.invariant.5 ∙ append_assoc c.args.vec.now.items (map without_span xs) (map without_span ys)
          ∙ ap (λ zs. c.args.vec.now.items ++ zs) (sym (map-append without_span xs ys)
          ∙ ap (map without_span) (sym (walk_more c.args.first c.args.start c.loop-done.done c.loop-done.nth c.loop-done.at c.min-count.result bs (block_spans c.index-block.result.now) low a b.same s.within (omega arith)))),
    )
