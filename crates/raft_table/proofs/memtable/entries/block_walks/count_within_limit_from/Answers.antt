use Rattle.raft_table.proofs.Facts.{ℕ, suc, ◌≡◌, ◌+◌, ◌-◌, take, drop, arith, length-drop, length-take, block_spans, blocks_shown, entries_in_blocks, length-expanded, entry_of, block_at, limit_stops, limit_more, walk_len}
use Rattle.raft_table.proofs.memtable.entries.block_walks.count_within_limit_from.Goals as goal

pub index-requires : goal.index-requires
index-requires c =
    let b = block_at c.args.blocks.now.items c.index-block.result.now (c.loop-i.invariant.0 c.loop-i-test.true) c.index-block.ensures in
    let w = b.inside in omega (arith, c.index-block.result.now.spans.ok)

pub next_spot-spot-requires-clause-inside : goal.next_spot-spot-requires-clause-inside
next_spot-spot-requires-clause-inside c =
    let b = block_at c.args.blocks.now.items c.index-block.result.now (c.loop-i.invariant.0 c.loop-i-test.true) c.index-block.ensures in
    b.inside

pub returns-then-total-gt0 : goal.returns-then-total-gt0
returns-then-total-gt0 c j =
    let bs = blocks_shown c.args.blocks.now.items in
    let es = entries_in_blocks j bs in
    let xs = drop c.args.start (take c.args.end es) in
    let n = c.loop-i.i - c.args.start in
    let i = c.loop-i.auto.i in
    let a = c.loop-i.invariant.0 c.loop-i-test.true in
    let b = block_at c.args.blocks.now.items c.index-block.result.now a c.index-block.ensures in
    let d = entry_of 0 c.index-block.result.now.handle c.index.result.now in
    let len = walk_len j c.args.start c.loop-i.i c.loop-i.spot.0 c.loop-i.spot.1 c.args.end c.from.result bs (block_spans c.index-block.result.now) c.index.result.now d a b.same c.index.ensures c.from.ensures i c.loop-i-test.true in
    limit_stops c.args.limit n c.loop-i.total c.from.result xs d (omega (arith, length-drop c.args.start (take c.args.end es), length-take c.args.end es, length-expanded j bs))
    (c.loop-i.invariant.2 j) len c.if-sum-limit.true c.if-total-gt0.true (c.loop-i.invariant.3 j)

pub loop-i-preserved : goal.loop-i-preserved
loop-i-preserved c =
    let bs = blocks_shown c.args.blocks.now.items in
    let n = c.loop-i.i - c.args.start in
    let i = c.loop-i.auto.i in
    let a = c.loop-i.invariant.0 c.loop-i-test.true in
    let b = block_at c.args.blocks.now.items c.index-block.result.now a c.index-block.ensures in
    let d = entry_of 0 c.index-block.result.now.handle c.index.result.now in
    let len = λ (j : ℕ). walk_len j c.args.start c.loop-i.i c.loop-i.spot.0 c.loop-i.spot.1 c.args.end c.from.result bs
    (block_spans c.index-block.result.now) c.index.result.now d a b.same c.index.ensures c.from.ensures i c.loop-i-test.true in
    let k : c.loop-i.i + 1 - c.args.start ≡ suc n = omega arith in
    let more = λ (j : ℕ). limit_more c.args.limit n c.loop-i.total c.from.result (drop c.args.start (take c.args.end (entries_in_blocks j bs))) d
    (omega (arith, length-drop c.args.start (take c.args.end (entries_in_blocks j bs)), length-take c.args.end (entries_in_blocks j bs), length-expanded j bs))
    (c.loop-i.invariant.2 j) (len j) c.else-sum-limit.either (c.loop-i.invariant.3 j) in
    rw k (λ l. c.next_spot-spot.ensures c.loop-i.i bs a c.requires.distinct b.same (omega arith), omega arith, λ j. (more j).0, λ j. (more j).1)

pub returns : goal.returns
returns c j =
    let bs = blocks_shown c.args.blocks.now.items in
    let es = entries_in_blocks j bs in
    let i = c.loop-i.auto.i-end c.requires.order in
    let f = c.loop-i.invariant.3 j in
    record {
      there = omega (arith, length-drop c.args.start (take c.args.end es), length-take c.args.end es, length-expanded j bs);
      fit = λ n l. f n (omega arith);
      stops = λ l. absurd (omega (arith, length-drop c.args.start (take c.args.end es), length-take c.args.end es, length-expanded j bs));
    }
