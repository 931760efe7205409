use Rattle.raft_contexts.proofs.Common.{sym, ap, ◌∙◌, len-from}
use Rattle.std.specs.FinMap as finite
use Rattle.raft_contexts.proofs.region_marks.slot.SlotMarks.len.Goals as goal

pub returns-clause-value : goal.returns-clause-value
returns-clause-value c = c.len.ensures.len ∙ sym (len-from c.self.inside.marks.entries c.len.ensures.unique) ∙ ap (λ m. finite.len m) c.self.view_is
