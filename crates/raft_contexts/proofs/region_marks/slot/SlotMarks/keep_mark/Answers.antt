use Rattle.raft_contexts.proofs.SlotMarksLemmas.{shown-with}
use Rattle.raft_contexts.proofs.region_marks.slot.SlotMarks.keep_mark.Goals as goal

pub returns-clause-ok : goal.returns-clause-ok
returns-clause-ok c = shown-with c.self.inside (record c.self.inside { marks = c.insert.new.self }) c.args.self.now c.args.id c.args.mark c.self.view_is c.in_ok-insert.ensures.updates.0
