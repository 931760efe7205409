use Rattle.raft_table.proofs.Facts.{arith, sym, ◌∙◌, block_spans, blocks_shown, block_at, IsStep, walk_step, walk_stops, walk_goes}
use Rattle.raft_table.proofs.memtable.entries.block_walks.count_movable_from.Goals as goal

pub returns-then-not-is_movable : goal.returns-then-not-is_movable
returns-then-not-is_movable c i =
    let a = c.loop-done.invariant.2 c.loop-done-test.true in
    let b = block_at c.args.blocks.now.items c.index-block.result.now a c.index-block.ensures in
    walk_stops c.args.gate i c.args.start c.loop-done.done c.loop-done.nth c.loop-done.at c.args.end (blocks_shown c.args.blocks.now.items) (block_spans c.index-block.result.now) a b.same c.loop-done-test.true c.requires.within
    (λ x e. sym c.if-not-is_movable.true ∙ c.is_movable.ensures x e) (c.loop-done.invariant.3 i)

pub overflow_sub-len : goal.overflow_sub-len
overflow_sub-len c =
    let b = block_at c.args.blocks.now.items c.index-block.result.now (c.loop-done.invariant.2 c.loop-done-test.true) c.index-block.ensures in
    let w = b.inside in omega (arith, c.index-block.result.now.spans.ok)

step : (c : goal.After-min-done) → IsStep c.loop-done.done c.loop-done.nth c.loop-done.at c.min-done.result c.args.end (blocks_shown c.args.blocks.now.items) (block_spans c.index-block.result.now)
step c =
    let a = c.loop-done.invariant.2 c.loop-done-test.true in
    let b = block_at c.args.blocks.now.items c.index-block.result.now a c.index-block.ensures in
    walk_step c.loop-done.done c.loop-done.nth c.loop-done.at c.min-done.result c.args.end c.len.result (blocks_shown c.args.blocks.now.items) (block_spans c.index-block.result.now) a c.requires.distinct b.same
    (omega (arith, c.index-block.result.now.spans.ok)) c.min-done.ensures c.loop-done-test.true c.requires.within

pub loop-done-smaller : goal.loop-done-smaller
loop-done-smaller c = let s = step c in let p = s.some in let t = c.loop-done-test.true in omega arith

pub loop-done-preserved : goal.loop-done-preserved
loop-done-preserved c =
    let s = step c in
    let a = c.loop-done.invariant.2 c.loop-done-test.true in
    let b = block_at c.args.blocks.now.items c.index-block.result.now a c.index-block.ensures in (
      omega arith,
      s.order,
      s.next,
      λ i. walk_goes c.args.gate i c.args.start c.loop-done.done c.loop-done.nth c.loop-done.at c.min-done.result c.args.end (blocks_shown c.args.blocks.now.items) (block_spans c.index-block.result.now) a b.same s c.requires.within
          (λ x e. sym c.if-not-is_movable.false ∙ c.is_movable.ensures x e) (c.loop-done.invariant.3 i),
    )
