use Rattle.raft_engine.proofs.Common.{◌-◌}
use Rattle.raft_engine.proofs.DamagedLemmas.{IsWalkedTo}
use Rattle.raft_engine.proofs.damaged.batch_end_past_middle.Given as goal

abbrev pub invariant-loop-at : goal.invariant-loop-at
invariant-loop-at l = IsWalkedTo l.file l.from l.end l.at

abbrev pub decreases-loop-at : goal.decreases-loop-at
decreases-loop-at l = l.end - l.at
