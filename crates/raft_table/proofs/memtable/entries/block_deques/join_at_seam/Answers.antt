use Rattle.raft_table.proofs.Facts.{◌≡◌, ◌-◌, drop, set, arith, refl, ap, ◌∙◌, err_from_is_err_and, blocks_shown, Block, AreMet, met_same, met_other, set_same, rest_set, one_block}
use Rattle.raft_table.proofs.memtable.entries.block_deques.join_at_seam.Goals as goal

other : (c : goal.After-blocks-1) → AreMet c.args.spot.0 c.args.spot.1 (blocks_shown c.args.blocks.now.items)
    (blocks_shown (set c.args.blocks.now.items (c.args.spot.0 - 1) (record { handle = c.index_mut.result.now.handle; spans = c.truncate.new.self }))) (blocks_shown c.args.more.now.items)
    (blocks_shown c.args.more.now.items) 0
other c = met_other c.args.spot.0 c.args.spot.1 c.args.blocks.now.items c.args.more.now.items c.index.result.now c.index_mut.result.now (record { handle = c.index_mut.result.now.handle; spans = c.truncate.new.self }) c.index-2.result.now
    (omega arith) c.requires.within c.requires.more c.index.ensures c.index-2.ensures c.if-not-is_same_place.ensures c.index_mut.ensures.value refl c.truncate.ensures.items

pub returns-then-not-is_same_place-clause-front : goal.returns-then-not-is_same_place-clause-front
returns-then-not-is_same_place-clause-front c = (other c).front

pub returns-then-not-is_same_place-clause-behind : goal.returns-then-not-is_same_place-clause-behind
returns-then-not-is_same_place-clause-behind c = (other c).behind

pub returns-then-not-is_same_place-clause-starts : goal.returns-then-not-is_same_place-clause-starts
returns-then-not-is_same_place-clause-starts c = rw (other c).seam refl

pub returns-in_err-lengthen_block-clause-err : goal.returns-in_err-lengthen_block-clause-err
returns-in_err-lengthen_block-clause-err c =
    let p = err_from_is_err_and c.from_residual.result c.from_residual.ensures.1 in
    let h = c.in_err-lengthen_block.ensures.err in
    rw p.1 (
      set_same c.args.blocks.now.items (c.args.spot.0 - 1) c.index_mut-2.result.now c.lengthen_block.new.block (omega arith) c.index_mut-2.ensures.value c.lengthen_block.ensures.handle h.0,
      set_same c.args.more.now.items 0 c.index_mut-3.result.now (record { handle = c.index_mut-3.result.now.handle; spans = c.lengthen_block.new.more }) c.requires.more c.index_mut-3.ensures.value refl h.1,
      refl,
    )

same : (c : goal.After-drop_first_item-2) → AreMet c.args.spot.0 c.args.spot.1 (blocks_shown c.args.blocks.now.items)
    (blocks_shown (set c.args.blocks.now.items (c.args.spot.0 - 1) c.lengthen_block.new.block)) (blocks_shown c.args.more.now.items)
    (blocks_shown (drop 1 c.args.more.now.items)) 1
same c = met_same c.args.spot.0 c.args.spot.1 c.args.blocks.now.items c.args.more.now.items c.index.result.now c.index_mut-2.result.now c.lengthen_block.new.block c.index_mut-3.result.now
    (omega arith) c.requires.within c.requires.more c.index.ensures c.index_mut-3.ensures.value
    (c.if-not-is_same_place.ensures ∙ ap (λ (y : Block). y.handle) (one_block c.args.more.now.items 0 c.index-2.result.now c.index_mut-3.result.now c.requires.more c.index-2.ensures c.index_mut-3.ensures.value))
    c.index_mut-2.ensures.value c.lengthen_block.ensures.handle c.in_ok-lengthen_block.ensures.ok

left : (c : goal.After-drop_first_item-2) → c.drop_first_item.new.deque.items ≡ drop 1 c.args.more.now.items
left c = c.drop_first_item.ensures.items ∙ rest_set c.args.more.now.items _

pub returns-clause-front : goal.returns-clause-front
returns-clause-front c = rw (left c) (same c).front

pub returns-clause-behind : goal.returns-clause-behind
returns-clause-behind c = (same c).behind

pub returns-clause-starts : goal.returns-clause-starts
returns-clause-starts c = c.drop_first_item-2.ensures.items ∙ rw (same c).seam refl
