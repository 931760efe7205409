use Rattle.raft_table.proofs.Facts.{◌≡◌, ◌-◌, ◌<◌, List, [], ◌∷◌, ◌++◌, length, take, set, arith, refl, ap, ◌∙◌, take_all, on_ok_weaker, IfErr-weaker, block_spans, blocks_shown, joined_blocks, seam, Block, pushed_same, pushed_other}
use Rattle.raft_table.proofs.Facts.{set_same, one_block}
use Rattle.raft_table.proofs.memtable.entries.block_deques.push_block.Goals.{then-len-gt0+else-is_same_place, else-len-gt0, then-capacity-eq0+in_ok-reserve_exact, else-capacity-eq0}
use Rattle.raft_table.proofs.memtable.entries.block_deques.push_block.Goals as goal

last : (c : goal.After-drop-block) → c.len-len.result - 1 < length c.args.blocks.now.items
last c = omega (arith, c.args.blocks.now.ok)

-- the last block, read three times
same : (c : goal.After-drop-block) → c.index_mut.result.now.handle ≡ c.args.block.handle
same c = ap (λ (y : Block). y.handle) (one_block c.args.blocks.now.items (c.len-len.result - 1) c.index_mut.result.now c.index.result.now (last c) c.index_mut.ensures.value c.index.ensures) ∙ c.if-is_same_place.ensures

pushed : (c : goal.After-drop-block) →
    c.lengthen_block.new.block.spans.items ≡ take c.len-kept.result c.index_mut.result.now.spans.items ++ c.args.block.spans.items →
    (blocks_shown (set c.args.blocks.now.items (c.len-len.result - 1) c.lengthen_block.new.block) ≡ joined_blocks (blocks_shown c.args.blocks.now.items)
    (block_spans c.args.block ∷ [])) × (seam (blocks_shown c.args.blocks.now.items) (block_spans c.args.block ∷ []) ≡ 1)
pushed c h =
    let k = c.len-len.result - 1 in
    let b = c.index_mut.result.now in
    let kept : c.len-kept.result ≡ length b.spans.items = omega (
      arith,
      ap (λ (y : Block). length y.spans.items)
          (one_block c.args.blocks.now.items k b c.index-then-is_same_place.result.now (last c) c.index_mut.ensures.value c.index-then-is_same_place.ensures),
      c.index-then-is_same_place.result.now.spans.ok,
    ) in
    pushed_same k c.args.blocks.now.items b c.lengthen_block.new.block c.args.block (omega (arith, c.args.blocks.now.ok)) c.index_mut.ensures.value (same c) c.lengthen_block.ensures.handle
    (h ∙ ap (λ ys. ys ++ c.args.block.spans.items) (take_all c.len-kept.result b.spans.items (omega arith)))

pub returns-then-is_same_place-clause-ok : goal.returns-then-is_same_place-clause-ok
returns-then-is_same_place-clause-ok c = on_ok_weaker c.lengthen_block.result (λ h. (pushed c h).0) c.lengthen_block.ensures.ok

pub returns-then-is_same_place-clause-err : goal.returns-then-is_same_place-clause-err
returns-then-is_same_place-clause-err c =
    IfErr-weaker c.lengthen_block.result _ _ (λ e h. set_same c.args.blocks.now.items (c.len-len.result - 1) c.index_mut.result.now c.lengthen_block.new.block (last c) c.index_mut.ensures.value c.lengthen_block.ensures.handle h.0) c.lengthen_block.ensures.err

pub returns-clause-ok : goal.returns-clause-ok
returns-clause-ok c =
    ap blocks_shown (c.in_ok-push_back.ensures.items ∙ ap (λ bs. bs ++ c.args.block ∷ []) (elim c.if-capacity-eq0.branch [
      | then-capacity-eq0+in_ok-reserve_exact w ↦ rw w.blocks-is w.reserve_exact.ensures.items
      | else-capacity-eq0 w ↦ rw w.blocks-is refl
    ]))
    ∙ elim c.if-len-gt0.branch [
      | then-len-gt0+else-is_same_place w ↦ (pushed_other (c.len-len.result - 1) c.args.blocks.now.items w.index.result.now c.args.block (omega (arith, w.if-len-gt0.true, c.args.blocks.now.ok)) w.index.ensures w.if-is_same_place.ensures).0
      | else-len-gt0 w ↦ first c.args.blocks.now.items (omega (arith, w.if-len-gt0.false, c.args.blocks.now.ok))
    ]
  where
    first : (bs : List Block) → length bs ≡ 0 → blocks_shown (bs ++ c.args.block ∷ []) ≡ joined_blocks (blocks_shown bs) (block_spans c.args.block ∷ [])
    first [] l = refl
    first (x ∷ bs) l = absurd (omega arith)
