use Rattle.raft_table.proofs.Facts.{arith, blocks_shown, entries_in_blocks, kept_facts, cut_counts}
use Rattle.raft_table.proofs.memtable.entries.Entries.count_after.Goals as goal

pub overflow_sub-result : goal.overflow_sub-result
overflow_sub-result c = let l = (kept_facts c.self.invariant.0).length in let h = rw (← c.self.view_is) at c.requires in omega arith

pub overflow_sub-result-2 : goal.overflow_sub-result-2
overflow_sub-result-2 c =
    let b = (kept_facts c.self.invariant.0).both in
    let h = rw (← c.self.view_is) at c.requires in
    omega arith

pub returns-clause-rewritten : goal.returns-clause-rewritten
returns-clause-rewritten c =
    let h = rw (← c.self.view_is) at c.requires in
    let k = cut_counts c.args.keep (entries_in_blocks c.self.inside.first (blocks_shown c.self.inside.blocks.items)) c.self.invariant.0.table_entries h in
    rw (← c.self.view_is) (omega (arith, k.rewritten, k.rewritten_behind))

pub returns-clause-appended : goal.returns-clause-appended
returns-clause-appended c =
    let l = (kept_facts c.self.invariant.0).length in
    let h = rw (← c.self.view_is) at c.requires in
    let k = cut_counts c.args.keep (entries_in_blocks c.self.inside.first (blocks_shown c.self.inside.blocks.items)) c.self.invariant.0.table_entries h in
    rw (← c.self.view_is) (omega (arith, k.rewritten, k.both, k.rewritten_behind, k.appended_behind, k.all))
