-- Rewrite files that no table needs: what their deletion asks.
use Rattle.std.specs.Prelude.{ℕ}
use Rattle.raft_base.specs.declared.errors.Error.{Error}
use Rattle.raft_base.specs.declared.pipe_log.LogQueue.TheVariants.{Rewrite}
use Rattle.raft_engine.specs.FileFailures.{Failures}
use Rattle.raft_engine.specs.KeptEngine.{KeptEngine}
use Rattle.raft_engine.specs.Purged.{AreFilesPurged, AreFilesUnpurged}

-- no rewrite file is expired, and nothing is asked or changed; or all that are, are deleted
abbrev pub AreRewritesPurged : ℕ → KeptEngine → KeptEngine → Type 0
AreRewritesPurged count old new = AreFilesPurged Rewrite count old new

-- of the rewrite queue: nothing was asked, for one of the reasons of a purge, and the engine is as it was; or it is half purged
abbrev pub AreRewritesUnpurged : Failures → KeptEngine → KeptEngine → Error → Type 0
AreRewritesUnpurged MayFail old new e = AreFilesUnpurged MayFail Rewrite old new e
