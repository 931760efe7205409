use Rattle.raft_engine.proofs.Common.{take, IsReady, AreRegionsMovedAgain}
use Rattle.raft_engine.proofs.engine.Engine.move_regions_again.Given as goal

abbrev pub invariant-loop-region : goal.invariant-loop-region
invariant-loop-region g l = IsReady l.self × AreRegionsMovedAgain (take l.region-index l.regions) l.initial.self l.self
