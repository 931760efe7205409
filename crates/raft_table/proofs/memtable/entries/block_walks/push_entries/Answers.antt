use Rattle.raft_table.proofs.Facts.{◌≡◌, ◌+◌, ◌-◌, length, map, take, drop, arith, ap, ◌∙◌, length-append, length-drop, length-map, length-take-le, blocks_shown, entries_in_blocks, without_span, length-expanded}
use Rattle.raft_table.proofs.memtable.entries.block_walks.push_entries.Goals as goal

pub set_spans-requires-clause-there : goal.set_spans-requires-clause-there
set_spans-requires-clause-there c =
    let es = entries_in_blocks c.args.first (blocks_shown c.args.blocks.now.items) in
    let xs = drop c.args.start (take c.args.end es) in
    let t : length (take c.args.end es) ≡ c.args.end = length-take-le c.args.end es (rw (length-expanded c.args.first (blocks_shown c.args.blocks.now.items)) (omega arith)) in
    let l : length (map without_span xs) ≡ c.args.end - c.args.start = length-map xs without_span ∙ omega (arith, length-drop c.args.start (take c.args.end es)) in
    let n : length c.push_without_spans.new.vec.items ≡ length c.args.vec.now.items + length (map without_span xs) = ap length c.push_without_spans.ensures ∙ length-append c.args.vec.now.items (map without_span xs) in
    omega (arith, c.args.vec.now.ok, c.len-len.ensures)
