use Rattle.raft_contexts.proofs.Common.{◌≡◌, Ok, Some, refl, sym, ap, ◌∙◌, Run, after_replay, table_in, first_index, ℕ}
use Rattle.raft_contexts.proofs.TakenLemmas.{changed_taken, first_of}
use Rattle.raft_contexts.proofs.ImpliedMarkLemmas.{replay_all}
use Rattle.raft_contexts.proofs.marked_tables.MarkedTables.try_apply_run.Goals as goal

pub returns : goal.returns
returns c =
    let id = c.args.item.now.raft_group_id in
    let run = c.in-EntryIndexes.entries.0.items in
    let tables = c.args.self.now.accessor.tables in
    let changed = rw c.deref-2.ensures.value at c.in-Some-try_replay_run.ensures.changed in
    let first : first_index run ≡ Some c.in-Some.first.now.index = ap first_index (sym c.deref.ensures.value) ∙ first_of c.deref.result.now c.in-Some.first.now c.in-Some.ensures.item.3.0 c.in-Some.ensures.item.1 in
    rw c.in-EntryIndexes.is (changed_taken c.args.queue id (Run run) c.args.self.now c.try_replay_run.new.self c.mark_run.new.self (Ok tt)
    (after_replay c.args.queue (table_in c.args.self.now.accessor.tables id) run) refl
    changed.ok changed.others changed.cleaned (rw c.deref-2.ensures.value at c.in-Some-try_replay_run.ensures.counts) refl
    (replay_all c.args.queue id tables c.try_replay_run.new.self.tables c.args.self.now.marks c.mark_run.new.self run _ c.in-Some-try_replay_run.end c.in-Some.first.now.index c.ends_of_region-start.ensures.run first changed.ok changed.others
    (ap (λ (p : ℕ × ℕ). p.0) c.ends_of_region-start.ensures.ends) c.in-Some-try_replay_run.ensures.end c.in_ok-mark_run.ensures) tt)
