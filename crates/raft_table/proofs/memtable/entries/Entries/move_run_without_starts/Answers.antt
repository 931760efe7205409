use Rattle.raft_table.proofs.Facts.{◌≡◌, inl, [], ◌+◌, ◌-◌, ◌<◌, ◌≤◌, min, ◌++◌, length, take, get_or, arith, refl, ap, subst, ◌∙◌, blocks_shown, entries_in_blocks, starts_of, first_of_last, joined_blocks, ◌^◌, IsKeptAs, kept_join_few}
use Rattle.raft_table.proofs.Facts.{joined_fits, kept_with, shown_len, within_of, front_of, kept_facts, kept_nil, spot_inside}
use Rattle.raft_table.proofs.memtable.entries.Entries.move_run_without_starts.Goals.{In_ok-replace_blocks_without_starts}
use Rattle.raft_table.proofs.memtable.entries.Entries.move_run_without_starts.Goals as goal

pub spot_at_position-nth-requires-clause-within : goal.spot_at_position-nth-requires-clause-within
spot_at_position-nth-requires-clause-within c = within_of c.self.invariant.0 (c.args.keep - 1) (let l = shown_len c.self.invariant.0 c.self.view_is in let h = c.requires.keep in omega arith)

pub replace_blocks_without_starts-requires-clause-kept : goal.replace_blocks_without_starts-requires-clause-kept
replace_blocks_without_starts-requires-clause-kept c d p =
    let e : c.spot_at_position-nth.result.0 ≡ c.spot_at_position-nth.result.0 + 1 - 1 = omega arith in
    subst (λ k. c.spot_at_position-nth.result.1 + 1 ≤ length (get_or c.self.inside.blocks.items k d).spans.items) e
    (let w = spot_inside c.self.inside.blocks.items c.spot_at_position-nth.ensures d in omega arith)

fits : (c : In_ok-replace_blocks_without_starts) → (c.args.keep + c.run.inside.len < 2 ^ 64) × (min c.self.inside.rewritten c.args.keep + c.run.inside.rewritten < 2 ^ 64)
fits c =
    let l = shown_len c.self.invariant.0 c.self.view_is in
    let m = shown_len c.run.invariant.0 c.run.view_is in
    joined_fits c.self.invariant.0 c.run.invariant.0 c.args.keep (omega (arith, c.requires.keep.1)) (omega (arith, c.requires.run)) (rw (c.self.view_is, c.run.view_is) c.requires.table_entries)

pub overflow_add-self : goal.overflow_add-self
overflow_add-self c = let f = (fits (goal.at.overflow_add-self c).In_ok-replace_blocks_without_starts).0 in omega arith

pub overflow_add-self-2 : goal.overflow_add-self-2
overflow_add-self-2 c = let f = (fits (goal.at.overflow_add-self-2 c).In_ok-replace_blocks_without_starts).1 in omega arith

put : (c : goal.After-run-2-1) → IsKeptAs c.self.inside.first (c.args.keep + c.run.inside.len)
    (joined_blocks (first_of_last (c.spot_at_position-nth.result.1 + 1) (take (c.spot_at_position-nth.result.0 + 1) (blocks_shown c.self.inside.blocks.items)))
    (blocks_shown c.run.inside.blocks.items))
    (starts_of c.self.inside.first (joined_blocks (first_of_last (c.spot_at_position-nth.result.1 + 1) (take (c.spot_at_position-nth.result.0 + 1) (blocks_shown c.self.inside.blocks.items))) (blocks_shown c.run.inside.blocks.items)))
    (min c.self.inside.rewritten c.args.keep + c.run.inside.rewritten)
    (take c.args.keep (entries_in_blocks c.self.inside.first (blocks_shown c.self.inside.blocks.items)) ++ entries_in_blocks c.run.inside.first
    (blocks_shown c.run.inside.blocks.items))
put c =
    kept_join_few c.self.invariant.0 c.run.invariant.0 c.args.keep (c.spot_at_position-nth.result.0 + 1) (c.spot_at_position-nth.result.1 + 1) c.requires.keep.0
    (let l = (kept_facts c.self.invariant.0).length in let h = rw (← c.self.view_is) at c.requires.keep.1 in omega arith)
    (front_of c.self.inside.first c.args.keep c.spot_at_position-nth.result.0 c.spot_at_position-nth.result.1 (blocks_shown c.self.inside.blocks.items)
    c.self.invariant.0.distinct c.requires.keep.0 c.spot_at_position-nth.ensures)
    (let m = (kept_facts c.run.invariant.0).length in let h = rw (← c.run.view_is) at c.requires.run in omega arith)
    (rw (c.self.view_is, c.run.view_is) c.requires.table_entries)

pub invariant_of-self-2 : goal.invariant_of-self-2
invariant_of-self-2 c = rw (c.in_ok-replace_blocks_without_starts.ensures.ok, c.min.ensures) ((put c).kept, inl c.clear.ensures.items)

pub invariant_of-run-2 : goal.invariant_of-run-2
invariant_of-run-2 c = (kept_with (kept_nil _ _ _ [] _ (ap blocks_shown c.in_ok-replace_blocks_without_starts.ensures.emptied) refl refl refl) refl, inl c.clear-2.ensures.items)

pub returns-clause-ok : goal.returns-clause-ok
returns-clause-ok c = rw (← c.self.view_is, ← c.run.view_is) (
  ap (entries_in_blocks c.self.inside.first) c.in_ok-replace_blocks_without_starts.ensures.ok
      ∙ (put c).entries,
  ap (λ xs. entries_in_blocks c.run.inside.first (blocks_shown xs)) c.in_ok-replace_blocks_without_starts.ensures.emptied,
)
