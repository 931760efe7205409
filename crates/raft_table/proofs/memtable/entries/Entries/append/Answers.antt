use Rattle.raft_table.proofs.Facts.{◌≡◌, ◌<◌, length, start_of, IsStart, on_ok_weaker, Append, start_of_front, sound_joined, counts_joined}
use Rattle.raft_table.specs.declared.memtable.entries.Start.TheVariants.{Joins}
use Rattle.raft_table.proofs.memtable.entries.Entries.append.Goals as goal

pub put_and_count_run-requires-clause-table_entries : goal.put_and_count_run-requires-clause-table_entries
put_and_count_run-requires-clause-table_entries c =
    let run = c.args.run.items in
    let h : c.deref.result.now ≡ run = c.deref.ensures.value in
    let l : 0 < length run = rw (← h) c.in-Some.ensures.item.3.0 in
    let s : start_of run ≡ c.in-Some.first.now.index = start_of_front run c.in-Some.first.now l (rw (← h) c.in-Some.ensures.item.1) in
    rw c.deref-2.ensures.value
    (sound_joined Append c.in-Joins.keep c.args.self.now run c.classify_start.ensures.table_entries tt c.requires.run l (rw s c.in-Joins.ensures.meets))

pub returns-in-Joins-clause-counts : goal.returns-in-Joins-clause-counts
returns-in-Joins-clause-counts c =
    let run = c.args.run.items in
    let h : c.deref.result.now ≡ run = c.deref.ensures.value in
    let l : 0 < length run = rw (← h) c.in-Some.ensures.item.3.0 in
    let s : start_of run ≡ c.in-Some.first.now.index = start_of_front run c.in-Some.first.now l (rw (← h) c.in-Some.ensures.item.1) in
    let m : IsStart c.args.self.now (start_of run) (Joins c.in-Joins.keep) = rw s c.in-Joins.ensures.meets in
    on_ok_weaker c.put_and_count_run.result
    (λ w. counts_joined Append c.args.self.now run c.in-Joins.keep c.args.stats.now c.put_and_count_run.new.stats c.classify_start.ensures.table_entries l m.2 m.0 m.1 (rw c.deref-2.ensures.value at w))
    c.put_and_count_run.ensures.counts
