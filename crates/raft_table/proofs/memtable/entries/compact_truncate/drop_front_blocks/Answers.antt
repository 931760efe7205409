use Rattle.raft_table.proofs.Facts.{refl, drop_front_blocks_shown}
use Rattle.raft_table.proofs.memtable.entries.compact_truncate.drop_front_blocks.Goals as goal

pub returns : goal.returns
returns c =
    drop_front_blocks_shown c.args.nth c.args.dropped c.args.blocks.now.items c.drop_first_items.new.deque.items c.index_mut.result.now (record { handle = c.index_mut.result.now.handle; spans = c.drop_first_items-2.new.deque })
    c.requires.nth c.drop_first_items.ensures c.index_mut.ensures.value refl c.drop_first_items-2.ensures
