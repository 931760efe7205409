use Rattle.raft_table.proofs.Facts.{ℕ, Bool, ◌≡◌, ◌≤◌, sym, arith, refl, LogQueue, Table, live_of, other, Result, OnOk, MatchBool, run_shown, start_of, EntryIndex, List, Some, ap, ◌∙◌, table_shown, Append, Rewrite, IsReplay, is_replay}
use Rattle.raft_table.proofs.Facts.{sound_under, counts_under, may_join}
use Rattle.std.specs.Result.{OnErr, is_ok}
use Rattle.std.specs.declared.result.Result.TheVariants.{Ok, Err}
use Rattle.raft_table.proofs.memtable.MemTable.try_replay.Goals.{In-Some-count_kept_by_rule}
use Rattle.raft_table.proofs.memtable.MemTable.try_replay.Goals as goal

replay : (c : In-Some-count_kept_by_rule) → IsReplay c.args.queue c.self.inside.entries (run_shown c.args.run.now) c.in-Some-count_kept_by_rule.keep
replay c =
    let s : start_of (run_shown c.args.run.now) ≡ c.in-Some.first = sym c.in-Some.ensures.0 in
    is_replay c.args.queue c.self.inside.entries (run_shown c.args.run.now) c.in-Some-count_kept_by_rule.keep c.count_kept_by_rule.ensures.table_entries c.in-Some.ensures.1 (rw s c.in-Some-count_kept_by_rule.ensures.kept)

none_other : (q o : LogQueue) (t : Table) (n : ℕ) → (q ≡ Append → o ≡ Rewrite) → (q ≡ Rewrite → o ≡ Append) → n ≡ live_of o t → n ≤ 0 → live_of (other q) t ≡ 0
none_other Append o t n a r e l = let k = rw (a refl) at e in omega arith
none_other Rewrite o t n a r e l = let k = rw (r refl) at e in omega arith

unmixed : (c : In-Some-count_kept_by_rule) → live_of (other c.args.queue) c.args.self.now ≡ 0
unmixed c = none_other c.args.queue c.other.result c.args.self.now c.records.result c.other.ensures.append c.other.ensures.rewrite c.records.ensures (omega arith)

pub put_and_count_run-requires-clause-table_entries : goal.put_and_count_run-requires-clause-table_entries
put_and_count_run-requires-clause-table_entries c =
    let s : start_of (run_shown c.args.run.now) ≡ c.in-Some.first = sym c.in-Some.ensures.0 in
    let none = rw (← c.self.view_is) at (unmixed (goal.at.put_and_count_run-requires-clause-table_entries c).In-Some-count_kept_by_rule) in
    sound_under c.args.queue c.args.queue c.self.inside.entries (run_shown c.args.run.now) c.in-Some-count_kept_by_rule.keep c.count_kept_by_rule.ensures.table_entries
    (may_join c.args.queue c.self.inside.entries (λ e. let z = rw e at none in omega arith)) c.requires.run c.in-Some.ensures.1 (rw s c.in-Some-count_kept_by_rule.ensures.kept)

by_result : {T E A B C X Y : Type 0} (r : Result T E) (b : Bool) → b ≡ is_ok r → (A → B → X) → (C → Y) → OnOk r A → OnOk r B → OnErr r C → MatchBool b X Y
by_result (Ok x) b e f g p q s = rw e (f p q)
by_result (Err x) b e f g p q s = rw e (g s)

pub returns-clause-done : goal.returns-clause-done
returns-clause-done c =
    let here = (goal.at.returns-clause-done c).In-Some-count_kept_by_rule in
    by_result c.put_and_count_run.result c.is_ok.result c.is_ok.ensures.value
    (λ new counts. (
      rw (← c.self.view_is, (replay here).after) (ap (λ (es : List EntryIndex). Some (record (table_shown c.self.inside) { entries = es })) (sym new)),
      unmixed here,
      rw (← c.self.view_is) (counts_under c.args.queue c.args.queue c.self.inside.entries (run_shown c.args.run.now) c.in-Some-count_kept_by_rule.keep c.args.stats.now c.put_and_count_run.new.stats c.in-Some.ensures.1 (replay here) counts),
    ))
    (λ same. (ap (λ (es : List EntryIndex). record (table_shown c.self.inside) { entries = es }) same.0 ∙ c.self.view_is, same.1))
    c.put_and_count_run.ensures.ok c.put_and_count_run.ensures.counts c.put_and_count_run.ensures.err
