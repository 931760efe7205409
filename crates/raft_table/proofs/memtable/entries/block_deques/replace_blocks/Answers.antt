use Rattle.raft_table.proofs.Facts.{◌++◌, take, drop, ap, ◌∙◌, blocks_shown, first_of_last, joined_blocks, shown_three}
use Rattle.raft_table.proofs.memtable.entries.block_deques.replace_blocks.Goals as goal

pub returns-clause-blocks : goal.returns-clause-blocks
returns-clause-blocks c =
    let b = c.join_at_seam.new.blocks.items in
    let m = c.join_at_seam.new.more.items in
    ap blocks_shown c.splice.ensures.items ∙ shown_three c.args.spot.0 c.args.rest b m
    ∙ ap (λ ys. ys ++ drop c.args.rest (blocks_shown b)) c.in_ok-join_at_seam.ensures.front
    ∙ ap (λ ys. joined_blocks (first_of_last c.args.spot.1 (take c.args.spot.0 (blocks_shown c.reserve_in_either.new.deque.items))) (blocks_shown c.reserve_in_either.new.more.items) ++ ys) (c.in_ok-join_at_seam.ensures.behind c.args.rest c.requires.order)
    ∙ ap (λ xs. joined_blocks (first_of_last c.args.spot.1 (take c.args.spot.0 (blocks_shown xs))) (blocks_shown c.reserve_in_either.new.more.items) ++ drop c.args.rest (blocks_shown xs)) c.reserve_in_either.ensures.items.0
    ∙ ap (λ ms. joined_blocks (first_of_last c.args.spot.1 (take c.args.spot.0 (blocks_shown c.args.blocks.now.items))) (blocks_shown ms) ++ drop c.args.rest (blocks_shown c.args.blocks.now.items)) c.reserve_in_either.ensures.items.1
