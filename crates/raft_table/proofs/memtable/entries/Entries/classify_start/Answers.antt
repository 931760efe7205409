use Rattle.raft_table.proofs.Facts.{◌-◌, arith, blocks_shown, entries_in_blocks, kept_facts, start_none, start_in_front, start_behind, start_joins}
use Rattle.raft_table.proofs.memtable.entries.Entries.classify_start.Goals as goal

pub returns-then-self-eq0-clause-meets : goal.returns-then-self-eq0-clause-meets
returns-then-self-eq0-clause-meets c = rw (← c.self.view_is, (kept_facts c.self.invariant.0).empty (omega arith)) (start_none c.args.index)

pub returns-then-index-self-clause-meets : goal.returns-then-index-self-clause-meets
returns-then-index-self-clause-meets c =
    let l = (kept_facts c.self.invariant.0).length in
    let s = (kept_facts c.self.invariant.0).start (omega arith) in
    rw (← c.self.view_is) (start_in_front c.args.index (entries_in_blocks c.self.inside.first (blocks_shown c.self.inside.blocks.items)) c.self.invariant.0.table_entries (omega arith) (omega arith))

pub returns-then-below-self-clause-meets : goal.returns-then-below-self-clause-meets
returns-then-below-self-clause-meets c =
    let l = (kept_facts c.self.invariant.0).length in
    let s = (kept_facts c.self.invariant.0).start (omega arith) in
    rw (← c.self.view_is) (start_behind c.args.index (entries_in_blocks c.self.inside.first (blocks_shown c.self.inside.blocks.items)) c.self.invariant.0.table_entries (omega arith) (omega arith))

pub returns-clause-meets : goal.returns-clause-meets
returns-clause-meets c =
    let l = (kept_facts c.self.invariant.0).length in
    let s = (kept_facts c.self.invariant.0).start (omega arith) in
    rw (← c.self.view_is) (start_joins c.args.index (c.args.index - c.self.inside.first)
    (entries_in_blocks c.self.inside.first (blocks_shown c.self.inside.blocks.items)) c.self.invariant.0.table_entries (omega arith) (omega arith)
    (omega arith))
