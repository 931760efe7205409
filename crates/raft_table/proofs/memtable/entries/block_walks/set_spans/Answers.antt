use Rattle.raft_table.proofs.Facts.{◌≡◌, ◌+◌, ◌-◌, ◌++◌, length, map, take, drop, arith, sym, ap, ◌∙◌, append_assoc, length-append, length-drop, length-take-le, entries_of_block, block_spans, blocks_shown, entries_in_blocks, without_span}
use Rattle.raft_table.proofs.Facts.{with_spans, block_at, length-expanded, IsStep, walk_step, walk_more, walk_part, part_set}
use Rattle.raft_table.proofs.memtable.entries.block_walks.set_spans.Goals as goal

pub overflow_sub-len : goal.overflow_sub-len
overflow_sub-len c =
    let b = block_at c.args.blocks.now.items c.index-block.result.now (c.loop-done.invariant.2 c.loop-done-test.true) c.index-block.ensures in
    let w = b.inside in omega (arith, c.index-block.result.now.spans.ok)

pub set_spans_of_block-requires-clause-within : goal.set_spans_of_block-requires-clause-within
set_spans_of_block-requires-clause-within c =
    let b = block_at c.args.blocks.now.items c.index-block.result.now (c.loop-done.invariant.2 c.loop-done-test.true) c.index-block.ensures in
    let w = b.inside in omega (arith, c.index-block.result.now.spans.ok)

step : (c : goal.After-set_spans_of_block) → IsStep c.loop-done.done c.loop-done.nth c.loop-done.at c.min-count.result c.args.end (blocks_shown c.args.blocks.now.items) (block_spans c.index-block.result.now)
step c =
    let a = c.loop-done.invariant.2 c.loop-done-test.true in
    let b = block_at c.args.blocks.now.items c.index-block.result.now a c.index-block.ensures in
    walk_step c.loop-done.done c.loop-done.nth c.loop-done.at c.min-count.result c.args.end c.len.result (blocks_shown c.args.blocks.now.items) (block_spans c.index-block.result.now) a c.requires.part.distinct b.same
    (omega (arith, c.index-block.result.now.spans.ok)) c.min-count.ensures c.loop-done-test.true c.requires.part.within

pub loop-done-smaller : goal.loop-done-smaller
loop-done-smaller c = let s = step c in let p = s.some in let t = c.loop-done-test.true in omega arith

pub loop-done-preserved : goal.loop-done-preserved
loop-done-preserved c =
    let s = step c in
    let order = s.order in
    let a = c.loop-done.invariant.2 c.loop-done-test.true in
    let b = block_at c.args.blocks.now.items c.index-block.result.now a c.index-block.ensures in
    let bs = blocks_shown c.args.blocks.now.items in
    let low = c.loop-done.invariant.0 in
    let w = c.requires.part.within in
    let n = c.min-count.result in
    let done = c.loop-done.done in (
      omega arith,
      order,
      s.next,
      c.set_spans_of_block.ensures.len ∙ c.loop-done.invariant.3,
      λ i front m e.
          let es = entries_in_blocks i bs in
          let xs = drop c.args.start (take done es) in
          let ss = take n (drop c.loop-done.at c.index-block.result.now.spans.items) in
          let h = c.index-block.result.now.handle in
          let rest = drop (done + n) (take c.args.end es) in
          let split : drop done (take c.args.end es) ≡ entries_of_block (i + done) h ss ++ rest =
          walk_part i done c.loop-done.nth c.loop-done.at n c.args.end bs (block_spans c.index-block.result.now) a b.same s.within order w in
          let more : drop c.args.start (take (done + n) es) ≡ xs ++ entries_of_block (i + done) h ss =
          walk_more i c.args.start done c.loop-done.nth c.loop-done.at n bs (block_spans c.index-block.result.now) low a b.same s.within (omega arith) in
          let was : c.loop-done.vec.items ≡ (front ++ xs) ++ map without_span (entries_of_block (i + done) h ss ++ rest) =
          c.loop-done.invariant.4 i front m e ∙ ap (λ zs. (front ++ xs) ++ map without_span zs) split in
          let t : length (take done es) ≡ done = length-take-le done es (rw (length-expanded i bs) (omega arith)) in
          let long : length (front ++ xs) ≡ c.args.len + (done - c.args.start) = length-append front xs ∙ omega (arith, length-drop c.args.start (take done es)) in
          c.set_spans_of_block.ensures.items
          ∙ ap (λ zs. take (c.args.len + (done - c.args.start)) zs ++ with_spans ss (drop (c.args.len + (done - c.args.start)) zs)) was
          ∙ part_set (front ++ xs) (c.args.len + (done - c.args.start)) (i + done) h ss rest long
          ∙ ap (λ zs. zs ++ map without_span rest) (append_assoc front xs (entries_of_block (i + done) h ss) ∙ ap (λ zs. front ++ zs) (sym more)),
    )
