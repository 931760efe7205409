use Rattle.raft_table.proofs.Facts.{◌≡◌, ◌+◌, ◌≤◌, ◌++◌, drop, arith, sym, ap, ◌∙◌, length-drop, take_all, on_ok_weaker, blocks_shown, entries_in_blocks, prefix_len, prefix_len-le-length, is_placed_before, kept_facts, appended_before_is}
use Rattle.raft_table.proofs.memtable.entries.Entries.fetch_appended_up_to.Goals as goal

pub count_movable-count-requires-clause-order : goal.count_movable-count-requires-clause-order
count_movable-count-requires-clause-order c = let b = (kept_facts c.self.invariant.0).both in omega arith

pub count_movable-count-requires-clause-within : goal.count_movable-count-requires-clause-within
count_movable-count-requires-clause-within c = let l = (kept_facts c.self.invariant.0).length in rw (← c.self.view_is) (omega arith)

count_is : (c : goal.After-push_range_into-arg-1) → c.count_movable-count.result ≡ prefix_len (is_placed_before c.args.gate) (drop c.self.inside.rewritten (entries_in_blocks c.self.inside.first (blocks_shown c.self.inside.blocks.items)))
count_is c =
    let l = (kept_facts c.self.invariant.0).length in
    (rw (← c.self.view_is) at c.count_movable-count.ensures)
    ∙ (ap (λ xs. prefix_len (is_placed_before c.args.gate) (drop c.self.inside.rewritten xs))
    (take_all c.self.inside.len (entries_in_blocks c.self.inside.first (blocks_shown c.self.inside.blocks.items)) (omega arith)))

room : (c : goal.After-push_range_into-arg-1) → c.self.inside.rewritten + c.count_movable-count.result ≤ c.self.inside.len
room c =
    let l = (kept_facts c.self.invariant.0).length in
    let b = (kept_facts c.self.invariant.0).both in
    let n = count_is c in
    let p = prefix_len-le-length (is_placed_before c.args.gate) (drop c.self.inside.rewritten (entries_in_blocks c.self.inside.first (blocks_shown c.self.inside.blocks.items))) in
    omega (arith, length-drop c.self.inside.rewritten (entries_in_blocks c.self.inside.first (blocks_shown c.self.inside.blocks.items)))

pub overflow_add-start : goal.overflow_add-start
overflow_add-start c = let r = room c in omega arith

pub push_range_into-requires-clause-within : goal.push_range_into-requires-clause-within
push_range_into-requires-clause-within c = let r = room c in let l = (kept_facts c.self.invariant.0).length in rw (← c.self.view_is) (omega arith)

pub returns-clause-ok : goal.returns-clause-ok
returns-clause-ok c =
    let l = (kept_facts c.self.invariant.0).length in
    let n : c.count_movable-count.result ≡ prefix_len (is_placed_before c.args.gate) (drop c.self.inside.rewritten (entries_in_blocks c.self.inside.first (blocks_shown c.self.inside.blocks.items))) =
    (rw (← c.self.view_is) at c.count_movable-count.ensures) ∙ ap (λ xs. prefix_len (is_placed_before c.args.gate) (drop c.self.inside.rewritten xs))
    (take_all c.self.inside.len (entries_in_blocks c.self.inside.first (blocks_shown c.self.inside.blocks.items)) (omega arith)) in
    rw (← c.self.view_is)
    (on_ok_weaker c.push_range_into.result (λ h. (rw (← c.self.view_is) at h)
    ∙ ap (λ xs. c.args.vec.now.items ++ xs)
    (sym (appended_before_is c.args.gate c.count_movable-count.result c.self.inside.rewritten
    (entries_in_blocks c.self.inside.first (blocks_shown c.self.inside.blocks.items)) c.self.invariant.0.table_entries
    c.self.invariant.0.rewritten n))) c.push_range_into.ensures.ok)
