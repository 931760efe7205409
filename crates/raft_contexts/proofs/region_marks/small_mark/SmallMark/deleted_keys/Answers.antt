use Rattle.raft_contexts.proofs.Common.{sym, ap, ◌∙◌, Mark, form_shown}
use Rattle.std.specs.FinSet as finset
use Rattle.raft_contexts.proofs.region_marks.small_mark.SmallMark.deleted_keys.Goals as goal

pub returns-in-Run : goal.returns-in-Run
returns-in-Run c = sym (ap (λ (m : Mark). finset.len m.deleted) (sym c.self.view_is ∙ ap form_shown c.in-Run.is) ∙ finset.len-empty _)
