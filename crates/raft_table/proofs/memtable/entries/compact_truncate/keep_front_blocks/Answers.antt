use Rattle.raft_table.proofs.Facts.{refl, keep_front_blocks_shown}
use Rattle.raft_table.proofs.memtable.entries.compact_truncate.keep_front_blocks.Goals as goal

pub returns : goal.returns
returns c =
    keep_front_blocks_shown c.args.nth c.args.kept c.args.blocks.now.items c.truncate.new.self.items c.index_mut.result.now (record { handle = c.index_mut.result.now.handle; spans = c.truncate-2.new.self })
    c.requires.nth c.truncate.ensures.items c.index_mut.ensures.value refl c.truncate-2.ensures.items
