use Rattle.raft_table.proofs.Facts.{◌≡◌, drop, arith, refl, ◌∙◌, length-take-le, below, from, Append, Rewrite, each_queue, entry_count-cut, shown_len, kept_facts, kept_cut, none_above, same_deleted, few_behind}
use Rattle.raft_table.proofs.memtable.entries.Entries.truncate_from.Goals as goal

pub returns-then-self-eq0-clause-entries : goal.returns-then-self-eq0-clause-entries
unfolding below
returns-then-self-eq0-clause-entries c = rw (← c.self.view_is, (kept_facts c.self.invariant.0).empty (omega arith)) refl

pub returns-then-self-eq0-clause-counts : goal.returns-then-self-eq0-clause-counts
unfolding from
returns-then-self-eq0-clause-counts c = none_above c.args.stats.now c.args.index c.args.self.now (rw (← c.self.view_is, (kept_facts c.self.invariant.0).empty (omega arith)) refl)

pub count_after-rewritten-requires : goal.count_after-rewritten-requires
count_after-rewritten-requires c = let l = shown_len c.self.invariant.0 c.self.view_is in omega (arith, c.min-keep.ensures)

pub keep_front-requires : goal.keep_front-requires
keep_front-requires c = let l = shown_len c.self.invariant.0 c.self.view_is in omega (arith, c.min-keep.ensures)

pub delete-requires : goal.delete-requires
delete-requires c = rw c.count_after-rewritten.ensures.rewritten (few_behind Rewrite c.min-keep.result c.args.self.now c.args.stats.now c.requires)

pub delete-requires-2 : goal.delete-requires-2
delete-requires-2 c = omega (arith, c.count_after-rewritten.ensures.appended, few_behind Append c.min-keep.result c.args.self.now c.args.stats.now c.requires, c.delete.ensures.live Append)

pub returns-clause-entries : goal.returns-clause-entries
returns-clause-entries c = c.keep_front.ensures ∙ (rw c.self.view_is at (kept_cut c.self.invariant.0 c.args.index c.min-keep.result (rw c.saturating_sub.ensures at c.min-keep.ensures)).1)

pub returns-clause-dropped : goal.returns-clause-dropped
returns-clause-dropped c =
    let l = shown_len c.self.invariant.0 c.self.view_is in
    rw (c.keep_front.ensures, length-take-le c.min-keep.result c.args.self.now (omega (arith, c.min-keep.ensures))) (omega (arith, c.min-keep.ensures))

pub returns-clause-recounted : goal.returns-clause-recounted
returns-clause-recounted c =
    rw c.keep_front.ensures
    (each_queue _
    (omega (arith, c.delete.ensures.live Append, c.delete-2.ensures.live Append, c.count_after-rewritten.ensures.appended, entry_count-cut Append c.min-keep.result c.args.self.now))
    (omega (arith, c.delete.ensures.live Rewrite, c.delete-2.ensures.live Rewrite, c.count_after-rewritten.ensures.rewritten, entry_count-cut Rewrite c.min-keep.result c.args.self.now)))

pub returns-clause-counts : goal.returns-clause-counts
returns-clause-counts c =
    let d : drop c.min-keep.result c.args.self.now ≡ from c.args.index c.args.self.now = rw c.self.view_is at (kept_cut c.self.invariant.0 c.args.index c.min-keep.result (rw c.saturating_sub.ensures at c.min-keep.ensures)).0 in
    rw (← d) (same_deleted c.args.stats.now c.delete.new.self c.delete-2.new.self _ _ _ _ c.delete.ensures.after c.delete-2.ensures.after
    c.count_after-rewritten.ensures.rewritten c.count_after-rewritten.ensures.appended)
