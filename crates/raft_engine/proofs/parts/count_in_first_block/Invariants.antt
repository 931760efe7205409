use Rattle.raft_engine.proofs.PartLengths.{AreOfBlock}
use Rattle.raft_engine.proofs.parts.count_in_first_block.Given as goal

abbrev pub invariant-loop-entry : goal.invariant-loop-entry
invariant-loop-entry l = AreOfBlock l.entries l.entry-index l.len l.first.entries
