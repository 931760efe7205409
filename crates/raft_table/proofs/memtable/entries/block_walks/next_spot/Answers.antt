use Rattle.raft_table.proofs.Facts.{arith, block_spans, walk_next_block}
use Rattle.raft_table.proofs.memtable.entries.block_walks.next_spot.Goals as goal

pub returns : goal.returns
returns c p bs a h q l =
    walk_next_block p c.args.spot.0 c.args.spot.1 bs (block_spans c.args.block.now) a h q (let t = c.if-at-len.false in omega (arith, c.args.block.now.spans.ok)) l
