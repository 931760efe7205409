use Rattle.raft_table.proofs.Facts.{arith, refl, block_spans, blocks_shown, entries_in_blocks, slice_get_past, within_of, kept_facts, seq_at_spot, block_at}
use Rattle.raft_table.proofs.memtable.entries.Entries.seq_at.Goals as goal

pub returns-then-at-self : goal.returns-then-at-self
returns-then-at-self c = let l = (kept_facts c.self.invariant.0).length in rw (← c.self.view_is, slice_get_past (entries_in_blocks c.self.inside.first (blocks_shown c.self.inside.blocks.items)) c.args.at (omega arith)) refl

pub spot_at_position-nth-requires-clause-within : goal.spot_at_position-nth-requires-clause-within
spot_at_position-nth-requires-clause-within c = within_of c.self.invariant.0 c.args.at (omega arith)

pub returns : goal.returns
returns c =
    let a = c.spot_at_position-nth.ensures in
    let b = block_at c.self.inside.blocks.items c.index.result.now a c.index.ensures in
    rw (← c.self.view_is)
    (seq_at_spot c.self.inside.first c.args.at c.spot_at_position-nth.result.0 c.spot_at_position-nth.result.1 (blocks_shown c.self.inside.blocks.items) (block_spans c.index.result.now) a b.same)
