use Rattle.raft_table.proofs.Facts.{ℕ, ◌≡◌, ◌+◌, ◌≤◌, List, [], ◌++◌, length, take, drop, arith, sym, ap, subst, ◌∙◌, append-nil, drop_all, on_ok_weaker, blocks_shown, entries_in_blocks, AreTableEntries, kept_facts, middle_sound}
use Rattle.raft_table.proofs.memtable.entries.Entries.set_places.Goals as goal

pub overflow_add-at : goal.overflow_add-at
overflow_add-at c = let l = (kept_facts c.self.invariant.0).length in let h = rw (← c.self.view_is) at c.requires.within in let r = c.self.ranges in omega (arith, c.self.ranges)

pub from_run-requires : goal.from_run-requires
from_run-requires c = middle_sound (take c.args.at c.args.self.now) c.args.places.now (drop (c.args.at + length c.args.places.now) c.args.self.now) c.requires.table_entries

pub replace_entries_at-requires-clause-behind : goal.replace_entries_at-requires-clause-behind
replace_entries_at-requires-clause-behind c =
    let l = (kept_facts c.self.invariant.0).length in
    rw (← c.self.view_is, c.in_ok-run.ensures.ok) (omega arith)

behind : (at m n : ℕ) {X : Type 0} (xs : List X) → length xs ≡ n → n ≤ at + m → drop (at + m) xs ≡ []
behind at m n xs e l = drop_all (at + m) xs (omega arith)

pub move_run_after-requires-clause-table_entries : goal.move_run_after-requires-clause-table_entries
move_run_after-requires-clause-table_entries c =
    let l = (kept_facts c.self.invariant.0).length in
    let e = rw c.self.view_is at (behind c.args.at (length c.args.places.now) c.self.inside.len (entries_in_blocks c.self.inside.first (blocks_shown c.self.inside.blocks.items)) l c.if-at-places.false) in
    subst (λ xs. AreTableEntries (take c.args.at c.args.self.now ++ xs)) (sym c.in_ok-run.ensures.ok)
    (subst AreTableEntries (ap (λ zs. take c.args.at c.args.self.now ++ c.args.places.now ++ zs) e ∙ append-nil (take c.args.at c.args.self.now ++ c.args.places.now)) c.requires.table_entries)

pub returns-clause-ok : goal.returns-clause-ok
returns-clause-ok c =
    let l = (kept_facts c.self.invariant.0).length in
    let e = rw c.self.view_is at (behind c.args.at (length c.args.places.now) c.self.inside.len (entries_in_blocks c.self.inside.first (blocks_shown c.self.inside.blocks.items)) l c.if-at-places.false) in
    on_ok_weaker c.move_run_after.result (λ h. h.0 ∙ ap (λ xs. take c.args.at c.args.self.now ++ xs) c.in_ok-run.ensures.ok
    ∙ sym (append-nil (take c.args.at c.args.self.now ++ c.args.places.now))
    ∙ ap (λ zs. take c.args.at c.args.self.now ++ c.args.places.now ++ zs) (sym e)) c.move_run_after.ensures.ok
