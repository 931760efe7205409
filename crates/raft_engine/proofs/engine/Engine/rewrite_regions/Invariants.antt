use Rattle.raft_engine.proofs.Common.{take, AreRegionsRewritten, IsReady}
use Rattle.raft_engine.proofs.engine.Engine.rewrite_regions.Given as goal

abbrev pub invariant-loop-region : goal.invariant-loop-region
invariant-loop-region g l = IsReady l.self × AreRegionsRewritten l.gate (take l.region-index l.regions) l.initial.self l.self
