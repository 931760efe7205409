use Rattle.raft_contexts.proofs.SlotMarksLemmas.{shown-same}
use Rattle.raft_contexts.proofs.region_marks.slot.SlotMarks.make_room.Goals as goal

pub returns : goal.returns
returns c = shown-same c.self.inside (record c.self.inside { marks = c.reserve.new.self }) c.args.self.now c.self.view_is c.reserve.ensures.entries.2
