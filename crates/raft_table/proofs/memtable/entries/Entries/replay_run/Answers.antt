use Rattle.raft_table.proofs.Facts.{◌≡◌, ◌<◌, length, start_of, on_ok_weaker, start_of_front, IsReplay, is_replay, sound_under, counts_under, may_join}
use Rattle.raft_table.proofs.memtable.entries.Entries.replay_run.Goals as goal

pub put_and_count_run-requires-clause-table_entries : goal.put_and_count_run-requires-clause-table_entries
put_and_count_run-requires-clause-table_entries c =
    let run = c.args.run.now in
    let l : 0 < length run = c.in-Some.ensures.item.3.0 in
    let s : start_of run ≡ c.in-Some.first.now.index = start_of_front run c.in-Some.first.now l c.in-Some.ensures.item.1 in
    sound_under c.args.queue c.args.queue c.args.self.now run c.in-Some-count_kept_by_rule.keep c.count_kept_by_rule.ensures.table_entries
    (may_join c.args.queue c.args.self.now c.requires.rewritten) c.requires.run l (rw s c.in-Some-count_kept_by_rule.ensures.kept)

replay : (c : goal.After-put_and_count_run) → IsReplay c.args.queue c.args.self.now c.args.run.now c.in-Some-count_kept_by_rule.keep
replay c =
    let run = c.args.run.now in
    let l : 0 < length run = c.in-Some.ensures.item.3.0 in
    let s : start_of run ≡ c.in-Some.first.now.index = start_of_front run c.in-Some.first.now l c.in-Some.ensures.item.1 in
    is_replay c.args.queue c.args.self.now run c.in-Some-count_kept_by_rule.keep c.count_kept_by_rule.ensures.table_entries l (rw s c.in-Some-count_kept_by_rule.ensures.kept)

pub returns-clause-counts : goal.returns-clause-counts
returns-clause-counts c =
    let l : 0 < length c.args.run.now = c.in-Some.ensures.item.3.0 in
    on_ok_weaker c.put_and_count_run.result (λ w. counts_under c.args.queue c.args.queue c.args.self.now c.args.run.now c.in-Some-count_kept_by_rule.keep c.args.stats.now c.put_and_count_run.new.stats l (replay c) w) c.put_and_count_run.ensures.counts
