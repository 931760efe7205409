use Rattle.raft_table.proofs.Facts.{◌-◌, arith, sym, block_spans, blocks_shown, entries_in_blocks, rises_expanded, entry_at_spot, within_of, kept_facts, entry_at_low, entry_at_past, block_at}
use Rattle.raft_table.proofs.memtable.entries.Entries.get.Goals as goal

pub returns-then-index-self : goal.returns-then-index-self
returns-then-index-self c = rw (← c.self.view_is)
    (sym (entry_at_low c.args.index c.self.inside.first (entries_in_blocks c.self.inside.first (blocks_shown c.self.inside.blocks.items))
    (omega arith) (rises_expanded c.self.inside.first (blocks_shown c.self.inside.blocks.items))))

pub returns-then-at-self : goal.returns-then-at-self
returns-then-at-self c =
    let l = (kept_facts c.self.invariant.0).length in
    rw (← c.self.view_is) (sym (entry_at_past c.args.index (c.args.index - c.self.inside.first) c.self.inside.first
    (entries_in_blocks c.self.inside.first (blocks_shown c.self.inside.blocks.items)) (omega arith) (omega arith)
    (rises_expanded c.self.inside.first (blocks_shown c.self.inside.blocks.items))))

pub spot_at_position-nth-requires-clause-within : goal.spot_at_position-nth-requires-clause-within
spot_at_position-nth-requires-clause-within c = within_of c.self.invariant.0 (c.args.index - c.self.inside.first) (omega arith)

pub index-span-requires : goal.index-span-requires
index-span-requires c =
    let a = c.spot_at_position-nth.ensures in
    let b = block_at c.self.inside.blocks.items c.index-block.result.now a c.index-block.ensures in
    let w = b.inside in omega (arith, c.index-block.result.now.spans.ok)

pub returns : goal.returns
returns c =
    let a = c.spot_at_position-nth.ensures in
    let b = block_at c.self.inside.blocks.items c.index-block.result.now a c.index-block.ensures in
    rw (← c.self.view_is)
    (entry_at_spot c.args.index c.self.inside.first c.spot_at_position-nth.result.0 c.spot_at_position-nth.result.1 (blocks_shown c.self.inside.blocks.items)
    (block_spans c.index-block.result.now) c.index-span.result.now (omega arith) a b.same c.index-span.ensures)
