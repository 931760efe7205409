use Rattle.raft_table.proofs.Facts.{◌≡◌, ◌+◌, ◌-◌, ◌≤◌, ◌<◌, length, take, arith, ap, subst, length-map, Block, block_spans, blocks_shown, count, walked_within, walked_more, shown_at, one_block}
use Rattle.raft_table.proofs.memtable.entries.block_deques.walk_to_spot.Goals as goal

pub loop-rest-preserved : goal.loop-rest-preserved
loop-rest-preserved c =
    let bs = c.args.blocks.now.items in
    let k = c.loop-rest.nth in
    let b = c.index-in-loop-rest.result.now in
    let n = length-map bs block_spans in
    let u = walked_within k c.loop-rest.rest c.args.behind (blocks_shown bs) c.loop-rest.invariant c.requires in
    let l : k < length bs = omega arith in
    let s = one_block bs k c.index.result.now b l c.index.ensures c.index-in-loop-rest.ensures in
    let m = ap (λ (y : Block). length y.spans.items) s in
    let w : length b.spans.items ≡ c.len-rest.result = omega (arith, b.spans.ok) in
    let h : length b.spans.items ≤ c.loop-rest.rest = let t = c.loop-rest-test.true in omega (arith, c.index.result.now.spans.ok) in
    subst (λ z. count (take (k + 1) (blocks_shown bs)) + (c.loop-rest.rest - z) ≡ c.args.behind) w
    (walked_more k c.loop-rest.rest c.args.behind (blocks_shown bs) (block_spans b) c.loop-rest.invariant u (shown_at bs k b l c.index-in-loop-rest.ensures) h)
