use Rattle.raft_table.proofs.Facts.{ℕ, ◌≡◌, ◌+◌, ◌-◌, inl, inr, min, List, [], ◌∷◌, ◌++◌, length, take, drop, arith, refl, sym, ap, subst, ◌∙◌, length-map, cases_lt, BlockSpans, block_spans, blocks_shown, entries_in_blocks}
use Rattle.raft_table.proofs.Facts.{without_first_spans, first_of_last, joined_blocks, seam, AreTableEntries, IsAt, ◌<◌, kept_bounded, kept_with, found, index_of, kept_length, kept_facts, block_at, block_within, spot_inside, IsKeptAs}
use Rattle.raft_table.proofs.Facts.{joined_some, pushed_length, between_fits, put_between, cut_order}
use Rattle.raft_table.proofs.memtable.entries.Entries.replace_entries_at.Goals.{After-find_spot-nth, After-spot_after_kept-spot}
use Rattle.raft_table.proofs.memtable.entries.Entries.replace_entries_at.Goals as goal

pub ensure_starts-requires-clause-bounded : goal.ensure_starts-requires-clause-bounded
ensure_starts-requires-clause-bounded c l = kept_bounded c.self.invariant.0 (let n = length-map c.self.inside.blocks.items block_spans in omega arith)

pub ensure_starts-requires-2-clause-bounded : goal.ensure_starts-requires-2-clause-bounded
ensure_starts-requires-2-clause-bounded c l = kept_bounded c.run.invariant.0 (let n = length-map c.run.inside.blocks.items block_spans in omega arith)

pub overflow_add-end : goal.overflow_add-end
overflow_add-end c = let f = (between_fits c.self.invariant.0 c.run.invariant.0 c.args.at c.self.view_is c.run.view_is c.requires.run c.requires.behind) in let a = f.1 in let b = f.2 in omega arith

pub overflow_add-moved : goal.overflow_add-moved
overflow_add-moved c = let f = (between_fits c.self.invariant.0 c.run.invariant.0 c.args.at c.self.view_is c.run.view_is c.requires.run c.requires.behind) in let a = f.1 in let b = f.2 in let d = f.3 in omega arith

pub overflow_add-rewritten : goal.overflow_add-rewritten
overflow_add-rewritten c = let f = (between_fits c.self.invariant.0 c.run.invariant.0 c.args.at c.self.view_is c.run.view_is c.requires.run c.requires.behind) in let a = f.1 in let b = f.2 in let d = f.3 in let e = f.4 in omega arith

pub overflow_add-index : goal.overflow_add-index
overflow_add-index c = let f = (between_fits c.self.invariant.0 c.run.invariant.0 c.args.at c.self.view_is c.run.view_is c.requires.run c.requires.behind) in let a = f.1 in let b = f.2 in omega arith

pub find_spot-nth-requires : goal.find_spot-nth-requires
find_spot-nth-requires c = index_of (kept_with c.self.invariant.0 c.in_ok-ensure_starts.ensures.ok) (c.args.at + c.run.inside.len) refl
    (between_fits c.self.invariant.0 c.run.invariant.0 c.args.at c.self.view_is c.run.view_is c.requires.run c.requires.behind).1

there : (c : After-find_spot-nth) → IsAt (c.args.at + c.run.inside.len) (blocks_shown c.self.inside.blocks.items) c.find_spot-nth.result.0 c.find_spot-nth.result.1
there c =
    found (kept_with c.self.invariant.0 c.in_ok-ensure_starts.ensures.ok) c.find_spot-nth.ensures (c.args.at + c.run.inside.len) refl
    (between_fits c.self.invariant.0 c.run.invariant.0 c.args.at c.self.view_is c.run.view_is c.requires.run c.requires.behind).1

pub index-block-requires : goal.index-block-requires
index-block-requires c = let w = block_within c.self.inside.blocks.items
    (there (goal.at.index-block-requires c).After-find_spot-nth) in omega (arith, c.self.inside.blocks.ok)

pub copy_spans_after-requires : goal.copy_spans_after-requires
copy_spans_after-requires c = let b = block_at c.self.inside.blocks.items c.index-block.result.now
    (there (goal.at.copy_spans_after-requires c).After-find_spot-nth) c.index-block.ensures in let w = b.inside in omega arith

pub spot_after_kept-spot-requires-clause-bounded : goal.spot_after_kept-spot-requires-clause-bounded
spot_after_kept-spot-requires-clause-bounded c =
    let f = (between_fits c.self.invariant.0 c.run.invariant.0 c.args.at c.self.view_is c.run.view_is c.requires.run c.requires.behind) in let a = f.1 in let b = f.2 in omega arith

pub spot_after_kept-spot-requires-clause-within : goal.spot_after_kept-spot-requires-clause-within
spot_after_kept-spot-requires-clause-within c l = index_of (kept_with c.self.invariant.0 c.in_ok-ensure_starts.ensures.ok) (c.args.at - 1) refl
    (let f = (between_fits c.self.invariant.0 c.run.invariant.0 c.args.at c.self.view_is c.run.view_is c.requires.run c.requires.behind) in let a = f.1 in omega arith)

pub overflow_add-nth : goal.overflow_add-nth
overflow_add-nth c = let w = block_within c.self.inside.blocks.items
    (there (goal.at.overflow_add-nth c).After-find_spot-nth) in omega (arith, c.self.inside.blocks.ok)

spot : (c : After-spot_after_kept-spot) → 0 < c.args.at → IsAt (c.args.at - 1) (blocks_shown c.self.inside.blocks.items) (c.spot_after_kept-spot.result.0 - 1) (c.spot_after_kept-spot.result.1 - 1)
    × (0 < c.spot_after_kept-spot.result.0) × (0 < c.spot_after_kept-spot.result.1)
spot c l =
    let f = (between_fits c.self.invariant.0 c.run.invariant.0 c.args.at c.self.view_is c.run.view_is c.requires.run c.requires.behind).1 in
    c.spot_after_kept-spot.ensures.some (blocks_shown c.self.inside.blocks.items) l c.in_ok-ensure_starts.ensures.ok (let n = c.self.invariant.0.len in omega arith)

pub replace_blocks-requires-clause-order : goal.replace_blocks-requires-clause-order
replace_blocks-requires-clause-order c =
    cut_order c.args.at (c.args.at + c.run.inside.len) c.spot_after_kept-spot.result.0 c.spot_after_kept-spot.result.1 c.find_spot-nth.result.0 c.find_spot-nth.result.1
    (blocks_shown c.self.inside.blocks.items) c.spot_after_kept-spot.ensures.none
    (spot (goal.at.replace_blocks-requires-clause-order c).After-spot_after_kept-spot)
    (there (goal.at.replace_blocks-requires-clause-order c).After-find_spot-nth) (omega arith)

pub replace_blocks-requires-clause-within : goal.replace_blocks-requires-clause-within
replace_blocks-requires-clause-within c =
    let w = block_within c.self.inside.blocks.items
    (there (goal.at.replace_blocks-requires-clause-within c).After-find_spot-nth) in omega arith

pub replace_blocks-requires-clause-kept : goal.replace_blocks-requires-clause-kept
replace_blocks-requires-clause-kept c d p =
    elim (cases_lt 0 c.args.at) [
      | inl l ↦ let u = spot (goal.at.replace_blocks-requires-clause-kept c).After-spot_after_kept-spot l in
          let w = spot_inside c.self.inside.blocks.items u.0 d in let v = u.2 in omega arith
      | inr l ↦ let z = (c.spot_after_kept-spot.ensures.none (omega arith)).0 in absurd (omega arith)
    ]

pub replace_blocks-requires-clause-starts : goal.replace_blocks-requires-clause-starts
replace_blocks-requires-clause-starts c = kept_length (kept_with c.self.invariant.0 c.in_ok-ensure_starts.ensures.ok) ∙ length-map c.self.inside.blocks.items block_spans

pub replace_blocks-requires-clause-more : goal.replace_blocks-requires-clause-more
replace_blocks-requires-clause-more c =
    let ys = blocks_shown c.run.inside.blocks.items in
    let t : BlockSpans = (record { handle = c.index-block.result.now.handle; spans = c.in_ok-spans.spans.items }) in
    let n : length c.push_block_with_start.new.blocks.items ≡ length (joined_blocks ys (t ∷ [])) = sym (length-map c.push_block_with_start.new.blocks.items block_spans) ∙ ap length c.in_ok-push_block_with_start.ensures.blocks in
    let m : length c.push_block_with_start.new.starts.items ≡ length (joined_blocks ys (t ∷ [])) = ap length c.in_ok-push_block_with_start.ensures.starts
    ∙ pushed_length c.run.inside.first (c.self.inside.first + (c.args.at + c.run.inside.len)) ys t c.ensure_starts-2.new.starts.items
    c.in_ok-ensure_starts-2.ensures.ok in
    (rw n (joined_some ys t), m ∙ sym n)

put : (c : goal.After-drop-blocks-2) → let es = entries_in_blocks c.self.inside.first (blocks_shown c.self.inside.blocks.items) in let ys = blocks_shown c.run.inside.blocks.items in
    IsKeptAs c.self.inside.first c.self.inside.len
    (joined_blocks (first_of_last c.spot_after_kept-spot.result.1 (take c.spot_after_kept-spot.result.0 (blocks_shown c.self.inside.blocks.items)))
    (joined_blocks ys ((record { handle = c.index-block.result.now.handle; spans = c.in_ok-spans.spans.items }) ∷ [])) ++ drop
    (c.find_spot-nth.result.0 + 1) (blocks_shown c.self.inside.blocks.items))
    (take c.spot_after_kept-spot.result.0 c.ensure_starts.new.starts.items ++ drop
    (seam (take c.spot_after_kept-spot.result.0 (blocks_shown c.self.inside.blocks.items))
    (joined_blocks ys ((record { handle = c.index-block.result.now.handle; spans = c.in_ok-spans.spans.items }) ∷ [])))
    (c.ensure_starts-2.new.starts.items ++ drop
    (seam ys ((record { handle = c.index-block.result.now.handle; spans = c.in_ok-spans.spans.items }) ∷ []))
    ((c.self.inside.first + (c.args.at + c.run.inside.len)) ∷ [])) ++ drop (c.find_spot-nth.result.0 + 1) c.ensure_starts.new.starts.items)
    (min c.self.inside.rewritten c.args.at + c.run.inside.rewritten + (c.self.inside.rewritten - min c.self.inside.rewritten (c.args.at + c.run.inside.len)))
    (take c.args.at es ++ entries_in_blocks c.run.inside.first ys ++ drop (c.args.at + c.run.inside.len) es)
put c =
    let es = entries_in_blocks c.self.inside.first (blocks_shown c.self.inside.blocks.items) in
    let fs = entries_in_blocks c.run.inside.first (blocks_shown c.run.inside.blocks.items) in
    let b = block_at c.self.inside.blocks.items c.index-block.result.now
    (found (kept_with c.self.invariant.0 c.in_ok-ensure_starts.ensures.ok) c.find_spot-nth.ensures (c.args.at + c.run.inside.len) refl
    (between_fits c.self.invariant.0 c.run.invariant.0 c.args.at c.self.view_is c.run.view_is c.requires.run c.requires.behind).1) c.index-block.ensures in
    let s : AreTableEntries (take c.args.at es ++ fs ++ drop (c.args.at + length fs) es) = rw (c.self.view_is, c.run.view_is) c.requires.table_entries in
    put_between (kept_with c.self.invariant.0 c.in_ok-ensure_starts.ensures.ok) (kept_with c.run.invariant.0 c.in_ok-ensure_starts-2.ensures.ok) c.args.at
    c.spot_after_kept-spot.result.0 c.spot_after_kept-spot.result.1 c.find_spot-nth.result.0 c.find_spot-nth.result.1
    (c.self.inside.first + (c.args.at + c.run.inside.len)) (block_spans c.index-block.result.now)
    (record { handle = c.index-block.result.now.handle; spans = c.in_ok-spans.spans.items })
    c.spot_after_kept-spot.ensures.none
    (λ l. c.spot_after_kept-spot.ensures.some (blocks_shown c.self.inside.blocks.items) l c.in_ok-ensure_starts.ensures.ok
    (let f = (between_fits c.self.invariant.0 c.run.invariant.0 c.args.at c.self.view_is c.run.view_is c.requires.run c.requires.behind) in let g = f.1 in let n = c.self.invariant.0.len in omega arith))
    (found (kept_with c.self.invariant.0 c.in_ok-ensure_starts.ensures.ok) c.find_spot-nth.ensures (c.args.at + c.run.inside.len) refl
    (between_fits c.self.invariant.0 c.run.invariant.0 c.args.at c.self.view_is c.run.view_is c.requires.run c.requires.behind).1)
    (between_fits c.self.invariant.0 c.run.invariant.0 c.args.at c.self.view_is c.run.view_is c.requires.run c.requires.behind).0 refl b.same
    (ap (λ (ss : List (ℕ × ℕ)). without_first_spans 0 (record { handle = c.index-block.result.now.handle; spans = ss })) c.in_ok-spans.ensures.ok)
    (subst (λ k. AreTableEntries (take c.args.at es ++ fs ++ drop (c.args.at + k) es)) (kept_facts c.run.invariant.0).length s)

pub invariant_of-self-2 : goal.invariant_of-self-2
invariant_of-self-2 c =
    let e = rw (c.in_ok-push_block_with_start.ensures.blocks, c.in_ok-push_block_with_start.ensures.starts) at c.in_ok-replace_blocks.ensures.starts in
    rw (c.in_ok-replace_blocks.ensures.blocks, c.in_ok-push_block_with_start.ensures.blocks, c.min-kept.ensures, c.min-passed.ensures) (kept_with (put c).kept refl, inr (e ∙ (put c).kept.starts))

pub returns-clause-ok : goal.returns-clause-ok
returns-clause-ok c =
    let es = entries_in_blocks c.self.inside.first (blocks_shown c.self.inside.blocks.items) in
    let fs = entries_in_blocks c.run.inside.first (blocks_shown c.run.inside.blocks.items) in
    rw (← c.self.view_is, ← c.run.view_is)
    (ap (entries_in_blocks c.self.inside.first)
    (c.in_ok-replace_blocks.ensures.blocks
    ∙ ap (λ ys. joined_blocks (first_of_last c.spot_after_kept-spot.result.1
    (take c.spot_after_kept-spot.result.0 (blocks_shown c.self.inside.blocks.items))) ys ++ drop (c.find_spot-nth.result.0 + 1)
    (blocks_shown c.self.inside.blocks.items)) c.in_ok-push_block_with_start.ensures.blocks)
    ∙ (put c).entries ∙ ap (λ k. take c.args.at es ++ fs ++ drop (c.args.at + k) es) (sym (kept_facts c.run.invariant.0).length))
