use Rattle.raft_engine.proofs.Common.{take}
use Rattle.raft_engine.proofs.BlockReadLemmas.{AreJoinedSoFar}
use Rattle.raft_engine.proofs.block_reads.read_joined_entries.Given as goal

abbrev pub invariant-loop-entry : goal.invariant-loop-entry
invariant-loop-entry g l = AreJoinedSoFar (take l.entry-index l.entries) l.joined.items l.last (g.F.EngineFiles.asked l.initial.files) (g.F.EngineFiles.asked l.files)
