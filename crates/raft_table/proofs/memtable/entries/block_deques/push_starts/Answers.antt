use Rattle.raft_table.proofs.Facts.{◌≡◌, ◌+◌, ◌<◌, suc, get_or, [], ◌∷◌, ◌++◌, length, take, arith, sym, ap, ◌∙◌, length-map, BlockSpans, block_spans, blocks_shown, count, starts_of, starts_more, count_take_more, count_front, shown_at}
use Rattle.raft_table.proofs.memtable.entries.block_deques.push_starts.Goals as goal

more : (c : goal.After-len) → count (take (c.loop-i.i + 1) (blocks_shown c.args.blocks.now.items)) ≡ count (take c.loop-i.i (blocks_shown c.args.blocks.now.items)) + c.len.result
more c =
    let bs = blocks_shown c.args.blocks.now.items in
    let b = block_spans c.index.result.now in
    let l : c.loop-i.i < length c.args.blocks.now.items = omega (arith, c.loop-i-test.true, c.args.blocks.now.ok) in
    let n = length-map c.args.blocks.now.items block_spans in
    let e = shown_at c.args.blocks.now.items c.loop-i.i c.index.result.now l c.index.ensures in
    let k : c.loop-i.i + 1 ≡ suc c.loop-i.i = omega arith in
    let d : length b.spans ≡ length (get_or bs c.loop-i.i b).spans = ap (λ (y : BlockSpans). length y.spans) e in
    let w : length c.index.result.now.spans.items ≡ c.len.result = omega (arith, c.index.result.now.spans.ok) in
    rw k (count_take_more c.loop-i.i bs b (omega arith) ∙ ap (λ m. count (take c.loop-i.i bs) + m) (sym d ∙ w))

pub overflow_add-index : goal.overflow_add-index
overflow_add-index c =
    let bs = blocks_shown c.args.blocks.now.items in
    let f = count_front (c.loop-i.i + 1) bs in
    let m = more c in
    omega arith

pub loop-i-preserved : goal.loop-i-preserved
loop-i-preserved c =
    let bs = blocks_shown c.args.blocks.now.items in
    let l : c.loop-i.i < length c.args.blocks.now.items = omega (arith, c.loop-i-test.true, c.args.blocks.now.ok) in
    let n = length-map c.args.blocks.now.items block_spans in
    let m = more c in
    let i = c.loop-i.invariant.1 in (
      c.push_back_reserved.ensures.items ∙ ap (λ xs. xs ++ c.loop-i.index ∷ []) c.loop-i.invariant.0
          ∙ ap (λ x. starts_of c.args.first (take c.loop-i.i bs) ++ x ∷ []) i
          ∙ sym (starts_more c.args.first c.loop-i.i bs (block_spans c.index.result.now) (omega arith)),
      omega arith,
      (let l = c.loop-i.invariant.2 in omega (arith, c.push_back_reserved.ensures.len)),
      (let l = c.loop-i.invariant.3 in omega (arith, c.push_back_reserved.ensures.capacity)),
    )
