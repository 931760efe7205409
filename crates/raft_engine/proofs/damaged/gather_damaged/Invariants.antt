use Rattle.raft_engine.proofs.Common.{◌-◌, AreDamagedBetween}
use Rattle.raft_engine.proofs.DamagedLemmas.{IsWalkedTo}
use Rattle.raft_engine.proofs.damaged.gather_damaged.Given as goal

abbrev pub invariant-loop-at : goal.invariant-loop-at
invariant-loop-at l = IsWalkedTo l.file l.from l.end l.at × AreDamagedBetween l.file l.from l.at l.damaged.items

abbrev pub decreases-loop-at : goal.decreases-loop-at
decreases-loop-at l = l.end - l.at
