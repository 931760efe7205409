use Rattle.raft_table.proofs.Facts.{ℕ, ◌≡◌, ◌+◌, ◌<◌, List, [], ◌∷◌, ◌++◌, length, drop, arith, sym, ap, ◌∙◌, length-map, append-nil, Block, BlockSpans, block_spans, blocks_shown, joined_blocks, seam, pushed_count, one_left}
use Rattle.raft_table.proofs.BlockKept.{none_left}
use Rattle.raft_table.proofs.memtable.entries.block_deques.push_block_with_start.Goals as goal

added : (x : ℕ) (old new : List Block) (t : BlockSpans) → blocks_shown new ≡ joined_blocks (blocks_shown old) (t ∷ []) → length old + length (drop (seam (blocks_shown old) (t ∷ [])) (x ∷ [])) ≡ length new
added x old new t e =
    let n = length-map old block_spans in
    let m = length-map new block_spans in
    let k = pushed_count x (blocks_shown old) t in
    let f = ap length e in
    omega arith

pub returns-then-len-clause-starts : goal.returns-then-len-clause-starts
returns-then-len-clause-starts c =
    let old = c.args.blocks.now.items in
    let t = block_spans c.args.block in
    let k = seam (blocks_shown old) (t ∷ []) in
    let a = added c.args.index old c.push_block.new.blocks.items t c.in_ok-push_block.ensures.ok in
    let none : length (drop k (c.args.index ∷ [])) ≡ 0 = omega (arith, c.if-len.true, c.args.blocks.now.ok, c.push_block.new.blocks.ok) in
    c.reserve.ensures.items ∙ sym (append-nil c.args.starts.now.items) ∙ ap (λ ys. c.args.starts.now.items ++ ys) (sym (none_left c.args.index k none))

pub returns-clause-starts : goal.returns-clause-starts
returns-clause-starts c =
    let old = c.args.blocks.now.items in
    let t = block_spans c.args.block in
    let k = seam (blocks_shown old) (t ∷ []) in
    let a = added c.args.index old c.push_block.new.blocks.items t c.in_ok-push_block.ensures.ok in
    let one : 0 < length (drop k (c.args.index ∷ [])) = omega (arith, c.if-len.false, c.args.blocks.now.ok, c.push_block.new.blocks.ok) in
    c.push_back_reserved.ensures.items ∙ ap (λ ss. ss ++ c.args.index ∷ []) c.reserve.ensures.items
    ∙ ap (λ ys. c.args.starts.now.items ++ ys) (sym (one_left c.args.index k one))
