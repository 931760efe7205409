use Rattle.raft_table.proofs.Facts.{◌≡◌, ◌++◌, length, take, arith, sym, ap, subst, ◌∙◌, take_all, on_ok_weaker, entries_of_block, AreTableEntries, kept_facts, length-spread, sound_behind}
use Rattle.raft_table.proofs.memtable.entries.Entries.put_block_after.Goals as goal

pub push_entry_block-requires-clause-table_entries : goal.push_entry_block-requires-clause-table_entries
push_entry_block-requires-clause-table_entries c =
    let l : c.self.inside.len ≡ length c.args.self.now = sym (rw (← c.self.view_is) (kept_facts c.self.invariant.0).length) in
    let t : take c.args.keep c.args.self.now ≡ c.args.self.now = take_all c.args.keep c.args.self.now (omega arith) in
    subst (λ es. AreTableEntries (es ++ entries_of_block c.args.index c.args.handle c.args.spans.items)) t c.requires.table_entries

pub returns-then-keep-self-clause-ok : goal.returns-then-keep-self-clause-ok
returns-then-keep-self-clause-ok c =
    let l : c.self.inside.len ≡ length c.args.self.now = sym (rw (← c.self.view_is) (kept_facts c.self.invariant.0).length) in
    let t : take c.args.keep c.args.self.now ≡ c.args.self.now = take_all c.args.keep c.args.self.now (omega arith) in
    on_ok_weaker c.push_entry_block.result (λ w. w ∙ sym (ap (λ es. es ++ entries_of_block c.args.index c.args.handle c.args.spans.items) t)) c.push_entry_block.ensures.ok

pub push_entry_block-requires-2-clause-table_entries : goal.push_entry_block-requires-2-clause-table_entries
push_entry_block-requires-2-clause-table_entries c = rw c.new-run.ensures (sound_behind c.args.keep c.args.self.now (entries_of_block c.args.index c.args.handle c.args.spans.items) c.requires.table_entries)

pub move_run_after-requires-clause-run : goal.move_run_after-requires-clause-run
move_run_after-requires-clause-run c = rw (c.in_ok-push_entry_block.ensures.ok, c.new-run.ensures, length-spread c.args.index c.args.handle c.args.spans.items) c.requires.filled
