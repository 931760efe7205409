use Rattle.raft_table.proofs.Facts.{◌++◌, take, sym, ap, ◌∙◌, take-map, map-append, block_spans, blocks_shown, first_of_last, joined_blocks}
use Rattle.raft_table.proofs.memtable.entries.block_deques.replace_blocks_without_starts.Goals as goal

pub returns-clause-ok : goal.returns-clause-ok
returns-clause-ok c =
    let k = c.args.spot.0 in
    let b = c.join_at_seam.new.blocks.items in
    let m = c.join_at_seam.new.more.items in
    ap blocks_shown (c.append_within_capacity.ensures.items ∙ ap (λ xs. xs ++ m) c.truncate.ensures.items)
    ∙ map-append block_spans (take k b) m ∙ ap (λ ys. ys ++ blocks_shown m) (sym (take-map block_spans k b))
    ∙ c.in_ok-join_at_seam.ensures.front
    ∙ ap (λ xs. joined_blocks (first_of_last c.args.spot.1 (take k (blocks_shown xs))) (blocks_shown c.args.more.now.items)) c.reserve.ensures.items
