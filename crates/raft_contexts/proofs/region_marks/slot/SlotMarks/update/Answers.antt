use Rattle.raft_contexts.proofs.Common.{lookup, nat_eq, ◌≡◌, Ok, sym, ap, subst, ◌∙◌, err_from_is_err_and, OnOk, OnErr, is_some, option_copied_mut, MayChangeMark, ChangesMark, slot_shown}
use Rattle.std.specs.FinMap as finite
use Rattle.raft_contexts.specs.declared.region_marks.slot.SlotMarks.TheInside.{Inside}
use Rattle.raft_contexts.proofs.SlotMarksLemmas.{shown-with, shown-same, there, absent, mark_of_some, mark_of_none, updated, made, refused}
use Rattle.raft_contexts.proofs.region_marks.slot.SlotMarks.update.Goals as goal

pub update-requires : goal.update-requires
update-requires g c = subst (MayChangeMark g.F.FnOnce c.args.change) (mark_of_some c.args.self.now c.args.id _ (there c.self.inside c.args.self.now c.args.id _ _ c.self.view_is c.get_mut.ensures.value c.in-Some.is)) c.requires

pub returns-in-Some : goal.returns-in-Some
returns-in-Some g c =
    updated g.F.FnOnce c.args.change c.args.self.now c.args.id c.in-Some.mark.now c.update.result c.update.new.self _ (there c.self.inside c.args.self.now c.args.id _ _ c.self.view_is c.get_mut.ensures.value c.in-Some.is) c.update.ensures
    (shown-with c.self.inside (record c.self.inside { marks = c.get_mut.follows.lender c.update.new.self }) c.args.self.now c.args.id
    c.update.new.self c.self.view_is
    ((c.get_mut.follows.holds c.update.new.self).3 (ap is_some (sym c.get_mut.ensures.value ∙ ap option_copied_mut c.in-Some.is))).0)

pub from_changed-requires : goal.from_changed-requires
from_changed-requires g c = subst (MayChangeMark g.F.FnOnce c.args.change)
    (mark_of_none c.args.self.now c.args.id (absent c.self.inside c.args.self.now c.args.id _ c.self.view_is c.get_mut.ensures.value c.in_default.is)
    ∙ sym c.new.ensures) c.requires

pub returns-in_err-mark : goal.returns-in_err-mark
returns-in_err-mark g c =
    let p = err_from_is_err_and c.from_residual.result c.from_residual.ensures.1 in
    rw (p.1, p.2) (refused g.F.FnOnce c.args.change c.args.self.now c.args.id _ _
    (shown-same c.self.inside (record c.self.inside { marks = c.get_mut.follows.lender-at-none }) c.args.self.now c.self.view_is
    (λ q. ap (λ m. lookup (nat_eq q) m.entries) c.get_mut.follows.holds-at-none)))

pub returns : goal.returns
returns g c =
    let before : Inside = record c.self.inside { marks = c.get_mut.follows.lender-at-none } in
    let same : slot_shown before ≡ c.args.self.now = shown-same c.self.inside before c.args.self.now c.self.view_is (λ q. ap (λ m. lookup (nat_eq q) m.entries) c.get_mut.follows.holds-at-none) in
    made g.F.FnOnce c.args.change c.args.self.now c.args.id c.keep_mark.result c.in_ok-mark.mark _ (absent c.self.inside c.args.self.now c.args.id _ c.self.view_is c.get_mut.ensures.value c.in_default.is)
    (subst (λ w. ChangesMark g.F.FnOnce c.args.change w (Ok tt) c.in_ok-mark.mark) c.new.ensures c.in_ok-mark.ensures)
    (subst (λ m. OnOk c.keep_mark.result (c.keep_mark.new.self ≡ finite.insert m c.args.id c.in_ok-mark.mark)) same c.keep_mark.ensures.ok) (subst (λ m. OnErr c.keep_mark.result (c.keep_mark.new.self ≡ m)) same c.keep_mark.ensures.err)
