use Rattle.raft_table.proofs.Facts.{◌≡◌, sym, start_of, Append, Rewrite, IsRunIn, not_nil, may_join, run_alone, each_placed, IsReplay, is_replay, sound_under, counts_under, few_behind, full_behind, recounted_behind}
use Rattle.raft_table.proofs.memtable.entries.Entries.absorb.Goals.{In-Some-count_kept_by_rule}
use Rattle.raft_table.proofs.memtable.entries.Entries.absorb.Goals as goal

replay : (c : In-Some-count_kept_by_rule) → IsReplay c.args.rule c.args.self.now c.args.rhs.now c.in-Some-count_kept_by_rule.keep
replay c =
    let s : start_of c.args.rhs.now ≡ c.in-Some.first = sym c.in-Some.ensures.1 in
    is_replay c.args.rule c.args.self.now c.args.rhs.now c.in-Some-count_kept_by_rule.keep c.count_kept_by_rule.ensures.table_entries (not_nil c.args.rhs.now c.in-Some.ensures.0) (rw s c.in-Some-count_kept_by_rule.ensures.kept)

alone : (c : In-Some-count_kept_by_rule) → IsRunIn c.args.queue c.args.rhs.now
alone c = run_alone c.args.queue c.args.rhs.now c.holds_one_run.ensures c.requires.alone

pub returns-then-not-can_exchange_counts-clause-fault : goal.returns-then-not-can_exchange_counts-clause-fault
returns-then-not-can_exchange_counts-clause-fault c =
    let p = (goal.at.returns-then-not-can_exchange_counts-clause-fault c).In-Some-count_kept_by_rule in
    rw ((replay p).after) (full_behind c.args.queue c.args.stats.now c.in-Some-count_kept_by_rule.keep c.args.self.now c.args.rhs.now _ _ _ c.if-not-can_exchange_counts.ensures
    c.count_after-gone.ensures.rewritten c.count_after-gone.ensures.appended c.len-added.ensures (each_placed c.args.queue c.args.rhs.now (alone p).placed))

pub move_run_after-requires-clause-table_entries : goal.move_run_after-requires-clause-table_entries
move_run_after-requires-clause-table_entries c =
    let s : start_of c.args.rhs.now ≡ c.in-Some.first = sym c.in-Some.ensures.1 in
    sound_under c.args.rule c.args.queue c.args.self.now c.args.rhs.now c.in-Some-count_kept_by_rule.keep c.count_kept_by_rule.ensures.table_entries
    (may_join c.args.queue c.args.self.now c.requires.rewritten) (alone (goal.at.move_run_after-requires-clause-table_entries c).In-Some-count_kept_by_rule)
    (not_nil c.args.rhs.now c.in-Some.ensures.0) (rw s c.in-Some-count_kept_by_rule.ensures.kept)

pub returns-clause-recounted : goal.returns-clause-recounted
returns-clause-recounted c =
    recounted_behind c.args.queue c.args.stats.now c.exchange_counts.new.stats c.in-Some-count_kept_by_rule.keep c.args.self.now c.args.rhs.now c.move_run_after.new.self _ _ _
    c.exchange_counts.ensures.live c.count_after-gone.ensures.rewritten c.count_after-gone.ensures.appended c.len-added.ensures
    (each_placed c.args.queue c.args.rhs.now (alone (goal.at.returns-clause-recounted c).In-Some-count_kept_by_rule).placed) c.in_ok-move_run_after.ensures.ok.0

pub returns-clause-counts : goal.returns-clause-counts
returns-clause-counts c =
    counts_under c.args.rule c.args.queue c.args.self.now c.args.rhs.now c.in-Some-count_kept_by_rule.keep c.args.stats.now c.exchange_counts.new.stats
    (not_nil c.args.rhs.now c.in-Some.ensures.0) (replay (goal.at.returns-clause-counts c).In-Some-count_kept_by_rule)
    (rw (← c.len-added.ensures, ← c.count_after-gone.ensures.rewritten, ← c.count_after-gone.ensures.appended) c.exchange_counts.ensures.counts)

pub can_exchange_counts-requires-clause-rewritten : goal.can_exchange_counts-requires-clause-rewritten
can_exchange_counts-requires-clause-rewritten c = rw c.count_after-gone.ensures.rewritten (few_behind Rewrite c.in-Some-count_kept_by_rule.keep c.args.self.now c.args.stats.now c.requires.counted)

pub can_exchange_counts-requires-clause-appended : goal.can_exchange_counts-requires-clause-appended
can_exchange_counts-requires-clause-appended c = rw c.count_after-gone.ensures.appended (few_behind Append c.in-Some-count_kept_by_rule.keep c.args.self.now c.args.stats.now c.requires.counted)

pub exchange_counts-requires-clause-rewritten : goal.exchange_counts-requires-clause-rewritten
exchange_counts-requires-clause-rewritten c = rw c.count_after-gone.ensures.rewritten (few_behind Rewrite c.in-Some-count_kept_by_rule.keep c.args.self.now c.args.stats.now c.requires.counted)

pub exchange_counts-requires-clause-appended : goal.exchange_counts-requires-clause-appended
exchange_counts-requires-clause-appended c = rw c.count_after-gone.ensures.appended (few_behind Append c.in-Some-count_kept_by_rule.keep c.args.self.now c.args.stats.now c.requires.counted)
