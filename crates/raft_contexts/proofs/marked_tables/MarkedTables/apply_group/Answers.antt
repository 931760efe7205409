use Rattle.raft_contexts.proofs.Common.{◌++◌, Err, Ok, List, ℕ, subst, err_from_is_err_and, AtomicGroup, on_each, RegionStep, AreStepsTaken, whole_shown, Rewrite}
use Rattle.raft_contexts.proofs.GroupFiles.{whole_ok, whole_counts, whole_fault, whole_other}
use Rattle.raft_contexts.proofs.TakenLemmas.{taken_more, taken_refused}
use Rattle.raft_contexts.proofs.marked_tables.MarkedTables.apply_group.Goals as goal

pub returns-in_err-apply_steps-clause-fault : goal.returns-in_err-apply_steps-clause-fault
returns-in_err-apply_steps-clause-fault c =
    let p = err_from_is_err_and c.from_residual-in_err-apply_steps.result c.from_residual-in_err-apply_steps.ensures.1 in
    let files = on_each c.in_ok-regions.regions.items (AtomicGroup c.args.whole.first_seq c.args.whole.last_seq) in
    let items = subst (λ (l : List RegionStep). AreStepsTaken Rewrite l (Err c.in_err-apply_steps.field-0.0) c.args.self.now c.apply_steps.new.self) c.into_steps.ensures c.in_err-apply_steps.ensures in
    rw (p.1, p.2) (whole_fault (whole_shown c.args.whole) c.in_ok-regions.regions.items c.args.self.now c.apply_steps.new.self
    (Err c.in_err-apply_steps.field-0.0) c.in_ok-regions.ensures
    (taken_refused Rewrite c.args.whole.items files c.args.self.now c.apply_steps.new.self _ items))

taken : (c : goal.After-drop-regions-2) → AreStepsTaken Rewrite (c.args.whole.items ++ on_each c.in_ok-regions.regions.items (AtomicGroup c.args.whole.first_seq c.args.whole.last_seq)) c.set_group_files.result c.args.self.now c.set_group_files.new.self
taken c =
    taken_more Rewrite c.args.whole.items (on_each c.in_ok-regions.regions.items (AtomicGroup c.args.whole.first_seq c.args.whole.last_seq)) c.args.self.now c.apply_steps.new.self c.set_group_files.new.self c.set_group_files.result c.requires.steps
    (subst (λ (l : List RegionStep). AreStepsTaken Rewrite l (Ok tt) c.args.self.now c.apply_steps.new.self) c.into_steps.ensures c.in_ok-apply_steps.ensures)
    (subst (λ (l : List ℕ). AreStepsTaken Rewrite (on_each l (AtomicGroup c.args.whole.first_seq c.args.whole.last_seq)) c.set_group_files.result c.apply_steps.new.self c.set_group_files.new.self) c.deref.ensures.value c.set_group_files.ensures)

pub returns-clause-ok : goal.returns-clause-ok
returns-clause-ok c = whole_ok (whole_shown c.args.whole) c.in_ok-regions.regions.items c.args.self.now c.set_group_files.new.self c.set_group_files.result c.in_ok-regions.ensures (taken c)

pub returns-clause-fault : goal.returns-clause-fault
returns-clause-fault c = whole_fault (whole_shown c.args.whole) c.in_ok-regions.regions.items c.args.self.now c.set_group_files.new.self c.set_group_files.result c.in_ok-regions.ensures (taken c)

pub returns-clause-counts : goal.returns-clause-counts
returns-clause-counts c = whole_counts (whole_shown c.args.whole) c.in_ok-regions.regions.items c.args.self.now c.set_group_files.new.self c.set_group_files.result c.in_ok-regions.ensures (taken c)

pub returns-clause-other : goal.returns-clause-other
returns-clause-other c = whole_other (whole_shown c.args.whole) c.in_ok-regions.regions.items c.args.self.now c.set_group_files.new.self c.set_group_files.result c.in_ok-regions.ensures (taken c) c.requires.steps
