use Rattle.raft_table.proofs.Facts.{ℕ, ◌≡◌, ◌+◌, ◌-◌, ◌<◌, ◌≤◌, List, ◌++◌, length, take, get_or, arith, sym, ap, subst, ◌∙◌, Some, take_all, on_ok_weaker, FileBlockHandle, EntryIndex, entries_of_block, spans_of, AreTableEntries}
use Rattle.raft_table.proofs.Facts.{sound_behind, group_of}
use Rattle.raft_table.proofs.memtable.entries.Entries.put_entries_after.Goals as goal

pub from_run-requires : goal.from_run-requires
from_run-requires c = sound_behind c.args.keep c.args.self.now c.args.run.now c.requires.table_entries

only_block : (run : List EntryIndex) (h : FileBlockHandle) (d : EntryIndex) → AreTableEntries run → 0 < length run →
    ((j : ℕ) (e : EntryIndex) → 0 ≤ j → j < 0 + length run → (get_or run j e).entries ≡ Some h) →
    entries_of_block (get_or run 0 d).index h (spans_of run) ≡ run
only_block run h d s l a =
    let e : 0 + length run - 0 ≡ length run = omega arith in
    let z : 0 + length run ≡ length run = omega arith in
    let g = group_of run 0 (length run) h d s (omega arith) l a in
    let t : take (length run) run ≡ run = take_all (length run) run (omega arith) in
    rw (e, z, t) at g

laid : (keep : ℕ) (es run : List EntryIndex) (h : FileBlockHandle) (ss : List (ℕ × ℕ)) (d : EntryIndex) → AreTableEntries (take keep es ++ run) →
    0 < length run → ss ≡ spans_of run → ((j : ℕ) (e : EntryIndex) → 0 ≤ j → j < 0 + length run → (get_or run j e).entries ≡ Some h) →
    take keep es ++ run ≡ take keep es ++ entries_of_block (get_or run 0 d).index h ss
laid keep es run h ss d s l q a =
    let o = only_block run h d (sound_behind keep es run s) l a in
    ap (λ xs. take keep es ++ xs) (sym o) ∙ ap (λ xs. take keep es ++ entries_of_block (get_or run 0 d).index h xs) (sym q)

pub put_block_after-requires-clause-table_entries : goal.put_block_after-requires-clause-table_entries
put_block_after-requires-clause-table_entries c =
    let e = laid c.args.keep c.args.self.now c.args.run.now c.in-Some.handle c.in_ok-spans.spans.items _ c.requires.table_entries c.requires.run c.in_ok-spans.ensures.ok (λ j x z k. c.count_at_place.ensures.all j x z (omega (arith, k))) in
    subst AreTableEntries e c.requires.table_entries

pub returns-clause-ok : goal.returns-clause-ok
returns-clause-ok c =
    let e = laid c.args.keep c.args.self.now c.args.run.now c.in-Some.handle c.in_ok-spans.spans.items _ c.requires.table_entries c.requires.run c.in_ok-spans.ensures.ok (λ j x z k. c.count_at_place.ensures.all j x z (omega (arith, k))) in
    on_ok_weaker c.put_block_after.result (λ w. w ∙ sym e) c.put_block_after.ensures.ok
