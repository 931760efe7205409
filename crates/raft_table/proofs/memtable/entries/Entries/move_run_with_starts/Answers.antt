use Rattle.raft_table.proofs.Facts.{◌≡◌, inl, inr, [], ◌+◌, ◌-◌, ◌<◌, ◌≤◌, min, ◌++◌, length, take, drop, get_or, arith, refl, ap, subst, ◌∙◌, length-map, block_spans, blocks_shown, entries_in_blocks, first_of_last, joined_blocks, seam}
use Rattle.raft_table.proofs.Facts.{◌^◌, IsAt, IsKeptAs, kept_join, joined_fits, blocks_filled, shown_len, kept_bounded, kept_with, found, index_of, kept_length, front_of, kept_facts, kept_nil, block_within, spot_inside}
use Rattle.raft_table.proofs.memtable.entries.Entries.move_run_with_starts.Goals.{After-binary_search_spot-nth}
use Rattle.raft_table.proofs.memtable.entries.Entries.move_run_with_starts.Goals as goal

pub ensure_starts-requires-clause-bounded : goal.ensure_starts-requires-clause-bounded
ensure_starts-requires-clause-bounded c l = kept_bounded c.self.invariant.0 (let n = length-map c.self.inside.blocks.items block_spans in omega arith)

pub ensure_starts-requires-2-clause-bounded : goal.ensure_starts-requires-2-clause-bounded
ensure_starts-requires-2-clause-bounded c l = kept_bounded c.run.invariant.0 (let n = length-map c.run.inside.blocks.items block_spans in omega arith)

pub overflow_add-self-inside : goal.overflow_add-self-inside
overflow_add-self-inside c =
    let l = shown_len c.self.invariant.0 c.self.view_is in
    let b = (kept_facts c.self.invariant.0).bounded (omega arith) in omega arith

pub binary_search_spot-nth-requires : goal.binary_search_spot-nth-requires
binary_search_spot-nth-requires c =
    index_of (kept_with c.self.invariant.0 c.in_ok-ensure_starts.ensures.ok) (c.args.keep - 1) refl
    (let l = shown_len c.self.invariant.0 c.self.view_is in let p = c.requires.keep.0 in let h = c.requires.keep.1 in omega arith)

there : (c : After-binary_search_spot-nth) → IsAt (c.args.keep - 1) (blocks_shown c.self.inside.blocks.items) c.binary_search_spot-nth.result.0 c.binary_search_spot-nth.result.1
there c =
    found (kept_with c.self.invariant.0 c.in_ok-ensure_starts.ensures.ok) c.binary_search_spot-nth.ensures (c.args.keep - 1) refl
    (let l = shown_len c.self.invariant.0 c.self.view_is in let p = c.requires.keep.0 in let h = c.requires.keep.1 in omega arith)

pub overflow_add-last : goal.overflow_add-last
overflow_add-last c = let p = (there (goal.at.overflow_add-last c).After-binary_search_spot-nth).spot in omega arith

pub overflow_add-nth : goal.overflow_add-nth
overflow_add-nth c = let w = block_within c.self.inside.blocks.items (there (goal.at.overflow_add-nth c).After-binary_search_spot-nth) in omega (arith, c.self.inside.blocks.ok)

pub replace_blocks-requires-clause-order : goal.replace_blocks-requires-clause-order
replace_blocks-requires-clause-order c = let w = block_within c.self.inside.blocks.items (there (goal.at.replace_blocks-requires-clause-order c).After-binary_search_spot-nth) in omega (arith, c.self.inside.blocks.ok)

pub replace_blocks-requires-clause-kept : goal.replace_blocks-requires-clause-kept
replace_blocks-requires-clause-kept c d p =
    let e : c.binary_search_spot-nth.result.0 ≡ c.binary_search_spot-nth.result.0 + 1 - 1 = omega arith in
    subst (λ k. c.binary_search_spot-nth.result.1 + 1 ≤ length (get_or c.self.inside.blocks.items k d).spans.items) e
    (let w = spot_inside c.self.inside.blocks.items (there (goal.at.replace_blocks-requires-clause-kept c).After-binary_search_spot-nth) d in omega arith)

pub replace_blocks-requires-clause-starts : goal.replace_blocks-requires-clause-starts
replace_blocks-requires-clause-starts c = kept_length (kept_with c.self.invariant.0 c.in_ok-ensure_starts.ensures.ok) ∙ length-map c.self.inside.blocks.items block_spans

pub replace_blocks-requires-clause-more : goal.replace_blocks-requires-clause-more
replace_blocks-requires-clause-more c =
    let n = length-map c.run.inside.blocks.items block_spans in
    let k = kept_length (kept_with c.run.invariant.0 c.in_ok-ensure_starts-2.ensures.ok) in
    let h : 0 < length (entries_in_blocks c.run.inside.first (blocks_shown c.run.inside.blocks.items)) = rw c.run.view_is c.requires.run in
    let f = blocks_filled c.run.inside.first (blocks_shown c.run.inside.blocks.items) h in
    (omega arith, omega arith)

fits : (c : After-binary_search_spot-nth) → (c.args.keep + c.run.inside.len < 2 ^ 64) × (min c.self.inside.rewritten c.args.keep + c.run.inside.rewritten < 2 ^ 64)
fits c =
    let l = shown_len c.self.invariant.0 c.self.view_is in
    let m = shown_len c.run.invariant.0 c.run.view_is in
    joined_fits c.self.invariant.0 c.run.invariant.0 c.args.keep (omega (arith, c.requires.keep.1)) (omega (arith, c.requires.run)) (rw (c.self.view_is, c.run.view_is) c.requires.table_entries)

pub overflow_add-self : goal.overflow_add-self
overflow_add-self c = let f = (fits (goal.at.overflow_add-self c).After-binary_search_spot-nth).0 in omega arith

pub overflow_add-self-2 : goal.overflow_add-self-2
overflow_add-self-2 c = let f = (fits (goal.at.overflow_add-self-2 c).After-binary_search_spot-nth).1 in omega arith

put : (c : goal.After-run-2-1) → IsKeptAs c.self.inside.first (c.args.keep + c.run.inside.len)
    (joined_blocks (first_of_last (c.binary_search_spot-nth.result.1 + 1) (take (c.binary_search_spot-nth.result.0 + 1) (blocks_shown c.self.inside.blocks.items)))
    (blocks_shown c.run.inside.blocks.items) ++ drop c.len-rest.result (blocks_shown c.self.inside.blocks.items))
    (take (c.binary_search_spot-nth.result.0 + 1) c.ensure_starts.new.starts.items ++ drop
    (seam (take (c.binary_search_spot-nth.result.0 + 1) (blocks_shown c.self.inside.blocks.items)) (blocks_shown c.run.inside.blocks.items))
    c.ensure_starts-2.new.starts.items ++ drop c.len-rest.result c.ensure_starts.new.starts.items)
    (min c.self.inside.rewritten c.args.keep + c.run.inside.rewritten)
    (take c.args.keep (entries_in_blocks c.self.inside.first (blocks_shown c.self.inside.blocks.items)) ++ entries_in_blocks c.run.inside.first
    (blocks_shown c.run.inside.blocks.items))
put c =
    kept_join (kept_with c.self.invariant.0 c.in_ok-ensure_starts.ensures.ok) (kept_with c.run.invariant.0 c.in_ok-ensure_starts-2.ensures.ok) c.args.keep
    (c.binary_search_spot-nth.result.0 + 1) (c.binary_search_spot-nth.result.1 + 1) c.len-rest.result c.requires.keep.0
    (let l = (kept_facts c.self.invariant.0).length in let h = rw (← c.self.view_is) at c.requires.keep.1 in omega arith)
    (front_of c.self.inside.first c.args.keep c.binary_search_spot-nth.result.0 c.binary_search_spot-nth.result.1 (blocks_shown c.self.inside.blocks.items)
    c.self.invariant.0.distinct c.requires.keep.0
    (found (kept_with c.self.invariant.0 c.in_ok-ensure_starts.ensures.ok) c.binary_search_spot-nth.ensures (c.args.keep - 1) refl
    (let l = shown_len c.self.invariant.0 c.self.view_is in let p = c.requires.keep.0 in let h = c.requires.keep.1 in omega arith)))
    (let m = (kept_facts c.run.invariant.0).length in let h = rw (← c.run.view_is) at c.requires.run in omega arith)
    (rw (c.self.view_is, c.run.view_is) c.requires.table_entries) (let n = length-map c.self.inside.blocks.items block_spans in omega (arith, c.self.inside.blocks.ok))

pub invariant_of-self-2 : goal.invariant_of-self-2
invariant_of-self-2 c = rw (c.in_ok-replace_blocks.ensures.blocks, c.min.ensures) (kept_with (put c).kept refl, inr (c.in_ok-replace_blocks.ensures.starts ∙ (put c).kept.starts))

pub invariant_of-run-2 : goal.invariant_of-run-2
invariant_of-run-2 c = (kept_with (kept_nil _ _ _ [] _ (ap blocks_shown c.in_ok-replace_blocks.ensures.emptied.0) refl refl refl) refl, inl c.in_ok-replace_blocks.ensures.emptied.1)

pub returns-clause-ok : goal.returns-clause-ok
returns-clause-ok c = rw (← c.self.view_is, ← c.run.view_is) (
  ap (entries_in_blocks c.self.inside.first) c.in_ok-replace_blocks.ensures.blocks
      ∙ (put c).entries,
  ap (λ xs. entries_in_blocks c.run.inside.first (blocks_shown xs)) c.in_ok-replace_blocks.ensures.emptied.0,
)
