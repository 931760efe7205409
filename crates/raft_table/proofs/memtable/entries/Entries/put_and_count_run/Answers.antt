use Rattle.raft_table.proofs.Facts.{Append, Rewrite, run_shown, each_placed, few_behind, full_behind, recounted_behind}
use Rattle.raft_table.proofs.memtable.entries.Entries.put_and_count_run.Goals as goal

pub returns-then-not-can_exchange_counts-clause-fault : goal.returns-then-not-can_exchange_counts-clause-fault
returns-then-not-can_exchange_counts-clause-fault c =
    full_behind c.args.queue c.args.stats.now c.args.keep c.args.self.now (run_shown c.args.run.now) _ _ _ c.if-not-can_exchange_counts.ensures
    c.count_after-gone.ensures.rewritten c.count_after-gone.ensures.appended c.len-added.ensures
    (each_placed c.args.queue (run_shown c.args.run.now) c.requires.queue)

pub returns-clause-recounted : goal.returns-clause-recounted
returns-clause-recounted c =
    recounted_behind c.args.queue c.args.stats.now c.exchange_counts.new.stats c.args.keep c.args.self.now (run_shown c.args.run.now) c.put_run_after.new.self _ _ _
    c.exchange_counts.ensures.live c.count_after-gone.ensures.rewritten c.count_after-gone.ensures.appended c.len-added.ensures
    (each_placed c.args.queue (run_shown c.args.run.now) c.requires.queue) c.in_ok-put_run_after.ensures.ok

pub can_exchange_counts-requires-clause-rewritten : goal.can_exchange_counts-requires-clause-rewritten
can_exchange_counts-requires-clause-rewritten c = rw c.count_after-gone.ensures.rewritten (few_behind Rewrite c.args.keep c.args.self.now c.args.stats.now c.requires.counted)

pub can_exchange_counts-requires-clause-appended : goal.can_exchange_counts-requires-clause-appended
can_exchange_counts-requires-clause-appended c = rw c.count_after-gone.ensures.appended (few_behind Append c.args.keep c.args.self.now c.args.stats.now c.requires.counted)

pub exchange_counts-requires-clause-rewritten : goal.exchange_counts-requires-clause-rewritten
exchange_counts-requires-clause-rewritten c = rw c.count_after-gone.ensures.rewritten (few_behind Rewrite c.args.keep c.args.self.now c.args.stats.now c.requires.counted)

pub exchange_counts-requires-clause-appended : goal.exchange_counts-requires-clause-appended
exchange_counts-requires-clause-appended c = rw c.count_after-gone.ensures.appended (few_behind Append c.args.keep c.args.self.now c.args.stats.now c.requires.counted)
