use Rattle.raft_contexts.proofs.Common.{sym, ap, ◌∙◌, is_some}
use Rattle.raft_contexts.proofs.SlotMarksLemmas.{get-shown}
use Rattle.raft_contexts.proofs.region_marks.slot.SlotMarks.has_mark.Goals as goal

pub returns : goal.returns
returns c = c.contains_key.ensures ∙ ap is_some (sym (get-shown c.self.inside c.args.self.now c.args.id c.self.view_is))
