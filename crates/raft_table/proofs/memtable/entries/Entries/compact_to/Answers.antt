use Rattle.raft_table.proofs.Facts.{◌≡◌, take, drop, arith, sym, ◌∙◌, length-drop, below, from, Append, Rewrite, each_queue, CutCounts, cut_counts, shown_len, kept_cut, same_deleted, none_below}
use Rattle.raft_table.proofs.memtable.entries.Entries.compact_to.Goals.{After-min-count}
use Rattle.raft_table.proofs.memtable.entries.Entries.compact_to.Goals as goal

gone : (c : After-min-count) → take c.min-count.result c.args.self.now ≡ below c.args.index c.args.self.now
gone c = rw c.self.view_is at (kept_cut c.self.invariant.0 c.args.index c.min-count.result (rw c.saturating_sub.ensures at c.min-count.ensures)).1

left : (c : After-min-count) → drop c.min-count.result c.args.self.now ≡ from c.args.index c.args.self.now
left c = rw c.self.view_is at (kept_cut c.self.invariant.0 c.args.index c.min-count.result (rw c.saturating_sub.ensures at c.min-count.ensures)).0

counts : (c : After-min-count) → CutCounts c.min-count.result c.args.self.now
counts c = let l = shown_len c.self.invariant.0 c.self.view_is in let e = c.min-count.ensures in cut_counts c.min-count.result c.args.self.now (rw c.self.view_is at c.self.invariant.0.table_entries) (omega arith)

pub returns-then-count-eq0-clause-entries : goal.returns-then-count-eq0-clause-entries
returns-then-count-eq0-clause-entries c = rw c.if-count-eq0.true at (left (goal.at.returns-then-count-eq0-clause-entries c).After-min-count)

pub returns-then-count-eq0-clause-counts : goal.returns-then-count-eq0-clause-counts
returns-then-count-eq0-clause-counts c = none_below c.args.stats.now c.args.index c.args.self.now (sym (rw c.if-count-eq0.true at (gone (goal.at.returns-then-count-eq0-clause-counts c).After-min-count)))

pub drop_front-requires : goal.drop_front-requires
drop_front-requires c = let l = shown_len c.self.invariant.0 c.self.view_is in omega (arith, c.min-count.ensures)

pub delete-requires-2 : goal.delete-requires-2
delete-requires-2 c =
    let k = counts (goal.at.delete-requires-2 c).After-min-count in
    let r = rw c.self.view_is at c.self.invariant.0.rewritten in
    omega (arith, c.requires Append, c.delete.ensures.live Append)

pub returns-clause-entries : goal.returns-clause-entries
returns-clause-entries c = c.drop_front.ensures ∙ left (goal.at.returns-clause-entries c).After-min-count

pub returns-clause-dropped : goal.returns-clause-dropped
returns-clause-dropped c =
    let l = shown_len c.self.invariant.0 c.self.view_is in
    rw (c.drop_front.ensures, length-drop c.min-count.result c.args.self.now) (omega (arith, c.min-count.ensures))

pub returns-clause-recounted : goal.returns-clause-recounted
returns-clause-recounted c =
    let k = counts (goal.at.returns-clause-recounted c).After-min-count in
    let r = rw c.self.view_is at c.self.invariant.0.rewritten in
    rw c.drop_front.ensures
    (each_queue _
    (omega (arith, c.delete.ensures.live Append, c.delete-2.ensures.live Append))
    (omega (arith, c.delete.ensures.live Rewrite, c.delete-2.ensures.live Rewrite)))

pub returns-clause-counts : goal.returns-clause-counts
returns-clause-counts c =
    let p = (goal.at.returns-clause-counts c).After-min-count in
    let k = counts p in
    let r = rw c.self.view_is at c.self.invariant.0.rewritten in
    rw (← gone p)
    (same_deleted c.args.stats.now c.delete.new.self c.delete-2.new.self _ _ _ _ c.delete.ensures.after c.delete-2.ensures.after
    (omega (arith, k.rewritten, r)) (omega (arith, k.rewritten, k.both, r)))
