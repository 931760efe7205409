use Rattle.raft_engine.proofs.Common.{map, take}
use Rattle.raft_engine.proofs.BlockReadLemmas.{AreReadSoFar}
use Rattle.raft_engine.proofs.block_reads.read_entries.Given as goal

abbrev pub invariant-loop-entry : goal.invariant-loop-entry
invariant-loop-entry g l = AreReadSoFar (take l.entry-index l.entries) (map (λ s. s.items) l.strings.items) l.last (g.F.EngineFiles.asked l.initial.files) (g.F.EngineFiles.asked l.files)
