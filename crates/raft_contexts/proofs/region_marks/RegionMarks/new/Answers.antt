use Rattle.raft_contexts.proofs.Common.{ap, slot_entries, together-empty}
use Rattle.raft_contexts.proofs.region_marks.RegionMarks.new.Goals as goal

pub returns : goal.returns
returns c = together-empty c.new.result.items (ap slot_entries c.new.ensures.items)
