use Rattle.raft_contexts.proofs.Common.{◌≡◌, ℕ, Ok, Some, ap, refl, entries_of_block, Run, after_replay, table_in, first_index}
use Rattle.raft_contexts.proofs.ReadTakenLemmas.{first_of_spans, run_unmarked}
use Rattle.raft_contexts.proofs.TakenLemmas.{changed_taken}
use Rattle.raft_contexts.proofs.ImpliedMarkLemmas.{after_entries, replay_all}
use Rattle.raft_contexts.proofs.marked_tables.MarkedTables.try_apply_spans.Goals as goal

-- the region mark stays as it is
pub returns-then-first-end : goal.returns-then-first-end
returns-then-first-end c =
    let id = c.args.item.now.region in
    let run = entries_of_block c.in-Run.first c.args.place c.args.spans.now in
    let changed = c.in-Some.ensures.changed in
    let first : first_index run ≡ Some c.in-Run.first = first_of_spans c.in-Run.first c.args.place c.args.spans.now c.if-is_empty.ensures in
    rw c.in-Run.is (changed_taken c.args.queue id (Run run) c.args.self.now c.try_replay_block.new.self c.args.self.now.marks (Ok tt)
    (after_replay c.args.queue (table_in c.args.self.now.accessor.tables id) run) refl
    changed.ok changed.others changed.cleaned c.in-Some.ensures.counts refl
    (run_unmarked c.args.queue id c.args.self.now.accessor.tables c.try_replay_block.new.self.tables c.args.self.now.marks run _ c.in-Run.first (c.in-Some.start, c.in-Some.end) c.requires.stands first
    (after_entries c.args.queue (table_in c.args.self.now.accessor.tables id) run _ changed.ok) refl changed.others c.in-Some.ensures.ends c.if-end-gt0.true c.if-start-first.true c.if-first-end.true) tt)

pub returns : goal.returns
returns c =
    let id = c.args.item.now.region in
    let run = entries_of_block c.in-Run.first c.args.place c.args.spans.now in
    let changed = c.in-Some.ensures.changed in
    let first : first_index run ≡ Some c.in-Run.first = first_of_spans c.in-Run.first c.args.place c.args.spans.now c.if-is_empty.ensures in
    rw c.in-Run.is (changed_taken c.args.queue id (Run run) c.args.self.now c.try_replay_block.new.self c.mark_run.new.self (Ok tt)
    (after_replay c.args.queue (table_in c.args.self.now.accessor.tables id) run) refl
    changed.ok changed.others changed.cleaned c.in-Some.ensures.counts refl
    (replay_all c.args.queue id c.args.self.now.accessor.tables c.try_replay_block.new.self.tables c.args.self.now.marks c.mark_run.new.self run c.in-Some.start c.in-Some.end c.in-Run.first
    (c.requires.stands id).2.stands.own_table.run first changed.ok changed.others
    (ap (λ (p : ℕ × ℕ). p.0) c.in-Some.ensures.ends) (ap (λ (p : ℕ × ℕ). p.1) c.in-Some.ensures.ends) c.in_ok-mark_run.ensures) tt)
