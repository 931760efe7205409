use Rattle.raft_engine.proofs.Common.{◌-◌}
use Rattle.raft_engine.proofs.BlockLemmas.{IsCheckedTo}
use Rattle.raft_engine.proofs.blocks.check_all_blocks.Given as goal

abbrev pub invariant-loop-at : goal.invariant-loop-at
invariant-loop-at l = IsCheckedTo l.file l.end l.at

abbrev pub decreases-loop-at : goal.decreases-loop-at
decreases-loop-at l = l.end - l.at
