use Rattle.raft_table.proofs.Facts.{arith, length-map, block_spans, blocks_shown, block_count_is, expanded_start}
use Rattle.raft_table.proofs.memtable.entries.Entries.blocks.Goals as goal

pub returns-clause-entries : goal.returns-clause-entries
returns-clause-entries c = rw (← c.self.view_is) (expanded_start c.self.inside.first (blocks_shown c.self.inside.blocks.items) c.self.invariant.0.distinct)

pub returns-clause-count : goal.returns-clause-count
returns-clause-count c =
    let n = length-map c.self.inside.blocks.items block_spans in
    rw (← c.self.view_is, block_count_is c.self.inside.first (blocks_shown c.self.inside.blocks.items) c.self.invariant.0.distinct) (omega arith)
