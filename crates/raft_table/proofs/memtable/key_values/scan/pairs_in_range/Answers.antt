use Rattle.raft_table.proofs.Facts.{◌&&◌, ap, ◌∙◌, true, nat_cmp, is_le, slice_cmp, Entry, filter-same, below-range}
use Rattle.raft_table.proofs.memtable.key_values.scan.pairs_in_range.Goals as goal

pub returns-in-Some-Some : goal.returns-in-Some-Some
returns-in-Some-Some c =
    let a = c.in-Some-Some.start.items in
    let b = c.in-Some-Some.end.items in
    rw (c.in-Some-Some.is-0, c.in-Some-Some.is-1)
    (c.range.ensures.between tt ∙ filter-same _ _ c.args.pairs.now.entries (λ (e : Entry). ap (λ r. is_le (slice_cmp nat_cmp a e.0.items) && r) (below-range b e.0.items)))

pub returns-in-None-Some : goal.returns-in-None-Some
returns-in-None-Some c =
    let b = c.in-None-Some.end.items in
    rw (c.in-None-Some.is-0, c.in-None-Some.is-1)
    (c.range-in-None-Some.ensures.between tt ∙ filter-same _ _ c.args.pairs.now.entries (λ (e : Entry). ap (λ r. true && r) (below-range b e.0.items)))
