use Rattle.raft_contexts.proofs.Common.{nat_eq, ◌≡◌, Some, None, sym, ap, subst, ◌∙◌, on_ok_weaker, on_err_weaker, OnOk, OnErr, lookup, is_some, option_copied_mut, Mark, fresh, joined_at, mark_in, slot_shown}
use Rattle.std.specs.FinMap as finite
use Rattle.raft_contexts.specs.declared.region_marks.slot.SlotMarks.TheInside.{Inside}
use Rattle.raft_contexts.proofs.SlotMarksLemmas.{shown-with, shown-same, there, absent, put_back, mark_of_some, mark_of_none, first_run}
use Rattle.raft_contexts.proofs.region_marks.slot.SlotMarks.add_run.Goals as goal

was : (c : goal.After-self-in-Some-1) → finite.get c.args.self.now c.args.id ≡ Some c.in-Some.mark.now
was c = there c.self.inside c.args.self.now c.args.id _ _ c.self.view_is c.get_mut.ensures.value c.in-Some.is

shown : (c : goal.After-self-in-Some-1) → slot_shown (record c.self.inside { marks = c.get_mut.follows.lender c.add_run.new.self }) ≡ finite.insert c.args.self.now c.args.id c.add_run.new.self
shown c = shown-with c.self.inside (record c.self.inside { marks = c.get_mut.follows.lender c.add_run.new.self }) c.args.self.now c.args.id
    c.add_run.new.self c.self.view_is
    ((c.get_mut.follows.holds c.add_run.new.self).3 (ap is_some (sym c.get_mut.ensures.value ∙ ap option_copied_mut c.in-Some.is))).0

pub returns-in-Some-clause-ok : goal.returns-in-Some-clause-ok
returns-in-Some-clause-ok c =
    let run : Mark = record fresh { reach = Some c.args.start; cut = Some c.args.start } in
    on_ok_weaker c.add_run.result (λ e. shown c ∙ ap (finite.insert c.args.self.now c.args.id) (e ∙ ap (λ m. joined_at c.args.queue c.args.end m run) (sym (mark_of_some c.args.self.now c.args.id _ (was c))))) c.add_run.ensures.ok

pub returns-in-Some-clause-err : goal.returns-in-Some-clause-err
returns-in-Some-clause-err c = on_err_weaker c.add_run.result (put_back c.args.self.now _ c.args.id _ _ (was c) (shown c)) c.add_run.ensures.err

pub returns-clause-ok : goal.returns-clause-ok
returns-clause-ok c =
    let run : Mark = record fresh { reach = Some c.args.start; cut = Some c.args.start } in
    let before : Inside = record c.self.inside { marks = c.get_mut.follows.lender-at-none } in
    let same : slot_shown before ≡ c.args.self.now = shown-same c.self.inside before c.args.self.now c.self.view_is (λ q. ap (λ m. lookup (nat_eq q) m.entries) c.get_mut.follows.holds-at-none) in
    let none : finite.get c.args.self.now c.args.id ≡ None = absent c.self.inside c.args.self.now c.args.id _ c.self.view_is c.get_mut.ensures.value c.in_default.is in
    let joined : c.of_run.result ≡ joined_at c.args.queue c.args.end (mark_in c.args.self.now c.args.id) run = c.of_run.ensures
    ∙ sym (first_run c.args.queue c.args.end c.args.start)
    ∙ ap (λ m. joined_at c.args.queue c.args.end m run) (sym (mark_of_none c.args.self.now c.args.id none)) in
    subst (λ m. OnOk c.keep_mark-2.result (c.keep_mark-2.new.self ≡ finite.insert c.args.self.now c.args.id m)) joined (subst (λ m. OnOk c.keep_mark-2.result (c.keep_mark-2.new.self ≡ finite.insert m c.args.id c.of_run.result)) same c.keep_mark-2.ensures.ok)

pub returns-clause-err : goal.returns-clause-err
returns-clause-err c =
    let before : Inside = record c.self.inside { marks = c.get_mut.follows.lender-at-none } in
    let same : slot_shown before ≡ c.args.self.now = shown-same c.self.inside before c.args.self.now c.self.view_is (λ q. ap (λ m. lookup (nat_eq q) m.entries) c.get_mut.follows.holds-at-none) in
    subst (λ m. OnErr c.keep_mark-2.result (c.keep_mark-2.new.self ≡ m)) same c.keep_mark-2.ensures.err
