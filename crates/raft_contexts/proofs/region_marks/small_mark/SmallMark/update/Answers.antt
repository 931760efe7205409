use Rattle.raft_contexts.proofs.Common.{refl, sym, ap, ◌∙◌, form_shown}
use Rattle.raft_contexts.proofs.SmallMarkLemmas.{one_changed}
use Rattle.raft_contexts.proofs.region_marks.small_mark.SmallMark.update.Goals as goal

pub returns-in-Whole : goal.returns-in-Whole
returns-in-Whole g c =
    one_changed g.F.FnOnce c.args.change c.args.self.now c.change.result c.change.new.arg2
    record { mark = c.deref_mut.result; shows = c.deref_mut.ensures.value ∙ sym (ap form_shown c.in-Whole.is) ∙ c.self.view_is; left = _; met = c.change.ensures; leaves = refl }
