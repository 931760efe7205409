use Rattle.raft_table.proofs.Facts.{ℕ, ◌≡◌, inl, inr, refl, true, eqb, List, [], ◌∷◌, ◌++◌, drop, length, arith, ap, sym, ◌∙◌, length-map, nil_from_length, nat_tests, BlockSpans, block_spans, blocks_shown, entries_in_blocks, joined_blocks}
use Rattle.raft_table.proofs.Facts.{seam, starts_of, AreStarts, kept_bounded, kept_with, IsPushed, pushed_fits, kept_push}
use Rattle.raft_table.proofs.memtable.entries.Entries.push_entry_block.Goals.{then-is_empty+then-len-lt-FEW+in_ok-push_block, else-is_empty+in_ok-ensure_starts+in_ok-push_block_with_start}
use Rattle.raft_table.proofs.memtable.entries.Entries.push_entry_block.Goals as goal

pub ensure_starts-requires-clause-bounded : goal.ensure_starts-requires-clause-bounded
ensure_starts-requires-clause-bounded c l = kept_bounded c.self.invariant.0 (let n = length-map c.self.inside.blocks.items block_spans in omega arith)

pub overflow_add-len : goal.overflow_add-len
overflow_add-len c =
    let f = (pushed_fits c.self.invariant.0 c.args.index (record { handle = c.args.handle; spans = c.args.spans.items }) c.requires.filled (rw c.self.view_is c.requires.table_entries)).0 in
    omega (arith, c.args.spans.ok)

pub overflow_add-rewritten : goal.overflow_add-rewritten
overflow_add-rewritten c =
    let f = pushed_fits c.self.invariant.0 c.args.index (record { handle = c.args.handle; spans = c.args.spans.items }) c.requires.filled (rw c.self.view_is c.requires.table_entries) in
    let e : c.len-count.result ≡ length c.args.spans.items = omega (arith, c.args.spans.ok) in
    let g = rw e at c.count_if_rewritten.ensures in
    let a = f.0 in let b = f.1 in omega arith

abbrev stretch : (c : goal.After-self-3-1) → BlockSpans
stretch c = record { handle = c.args.handle; spans = c.args.spans.items }

pushed : (c : goal.After-self-3-1) → IsPushed c.self.inside.first c.first_index_after_push-first.result c.self.inside.len c.args.index
    (blocks_shown c.self.inside.blocks.items) (starts_of c.self.inside.first (blocks_shown c.self.inside.blocks.items)) c.self.inside.rewritten
    (stretch c)
pushed c = kept_push c.self.invariant.0 c.first_index_after_push-first.result c.args.index (stretch c) c.requires.filled (rw c.self.view_is c.requires.table_entries) c.first_index_after_push-first.ensures.0 c.first_index_after_push-first.ensures.1

none_there : (n : ℕ) (xs : List ℕ) → eqb n 0 ≡ true → n ≡ length xs → xs ≡ []
none_there n xs h e = nil_from_length xs (grind (arith, nat_tests))

laid : (c : goal.After-self-3-1) → (blocks_shown c.if-is_empty.self-inside.blocks.items ≡ joined_blocks (blocks_shown c.self.inside.blocks.items) (stretch c ∷ []))
    × AreStarts c.first_index_after_push-first.result (joined_blocks (blocks_shown c.self.inside.blocks.items) (stretch c ∷ [])) c.if-is_empty.self-inside.starts.items
laid c = elim c.if-is_empty.branch [
  | then-is_empty+then-len-lt-FEW+in_ok-push_block w ↦ rw w.self-inside-is (w.in_ok-push_block.ensures.ok, inl (none_there _ c.self.inside.starts.items (sym w.if-is_empty.ensures) (omega (arith, c.self.inside.starts.ok))))
  | else-is_empty+in_ok-ensure_starts+in_ok-push_block_with_start w ↦ rw w.self-inside-is (
    w.in_ok-push_block_with_start.ensures.blocks,
    inr (w.in_ok-push_block_with_start.ensures.starts ∙ ap (λ ss. ss ++ drop (seam (blocks_shown c.self.inside.blocks.items) (stretch c ∷ [])) (c.args.index ∷ [])) w.in_ok-ensure_starts.ensures.ok ∙ (pushed c).kept.starts),
  )
]

pub invariant_of-self-2 : goal.invariant_of-self-2
invariant_of-self-2 c =
    let e : c.len-count.result ≡ length c.args.spans.items = omega (arith, c.args.spans.ok) in
    rw ((laid c).0, c.count_if_rewritten.ensures, e) (kept_with (pushed c).kept refl, (laid c).1)

pub returns-clause-ok : goal.returns-clause-ok
returns-clause-ok c = rw (← c.self.view_is) (ap (entries_in_blocks c.first_index_after_push-first.result) (laid c).0 ∙ (pushed c).entries)
