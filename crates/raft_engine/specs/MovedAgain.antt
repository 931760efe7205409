-- Rewritten records that an engine moves to a new file of the rewrite queue.
use Rattle.std.specs.Prelude.{◌≡◌, ◌⊎◌, ℕ, ◌-◌, ◌^◌, true, List, ◌++◌}
use Rattle.raft_base.specs.declared.errors.Error.{Error}
use Rattle.raft_base.specs.declared.errors.Error.TheVariants as errors
use Rattle.raft_base.specs.declared.pipe_log.LogQueue.TheVariants.{Rewrite}
use Rattle.raft_engine.specs.KeptEngine.{IsLastFile, KeptEngine}
use Rattle.raft_engine.specs.Moved.{AreRegions, IsTold, IsUntold}
use Rattle.raft_engine.specs.MovedGroups.{AreRegionsMovedAgain, AreSomeRegionsMovedAgain}
use Rattle.raft_engine.specs.WrittenBatch.{IsHalfRotated, next_asks}
use Rattle.raft_engine.specs.FileFailures.{Failures}

-- ---- a new file

-- the rewrite queue is synced, and a new file of the next number is begun in it; nothing else is asked or changed
pub record IsRewriteRotated (old new : KeptEngine) : Type 0 where
  pub seq : ℕ
  pub bytes : List ℕ
  pub last : IsLastFile Rewrite old.asks seq bytes
  pub rotated : new ≡ record old { asks = next_asks Rewrite seq ++ old.asks }

-- why nothing is asked for it: the last file has the greatest number, or there is no memory
abbrev pub IsRewriteRotationRefusal : KeptEngine → Error → Type 0
IsRewriteRotationRefusal engine errors.Full = (bytes : List ℕ) × IsLastFile Rewrite engine.asks (2 ^ 64 - 1) bytes
IsRewriteRotationRefusal engine errors.Memory = Unit {0}
IsRewriteRotationRefusal engine _ = ⊥

-- nothing was asked for one of these reasons, and the engine is as it was; or it is half done
abbrev pub IsRewriteUnrotated : Failures → KeptEngine → KeptEngine → Error → Type 0
IsRewriteUnrotated MayFail old new e = ((new ≡ old) × IsRewriteRotationRefusal old e) ⊎ IsHalfRotated MayFail Rewrite old new e

-- ---- what moves there

-- once all is told, a new file of the rewrite queue is begun, and what the tables of all regions have in rewrite files moves to it, one region after another
pub record AreMovedAgain (old new : KeptEngine) : Type 0 where
  pub told : KeptEngine
  pub is_told : IsTold old told
  pub begun : KeptEngine
  pub is_begun : IsRewriteRotated told begun
  pub regions : List ℕ
  pub all : AreRegions old.accessor.tables regions
  pub moved : AreRegionsMovedAgain regions begun new

-- all is told, and no new file is begun, or in part
pub record IsToldAlone (MayFail : Failures) (old new : KeptEngine) (e : Error) : Type 0 where
  pub was : old.intact ≡ true
  pub told : KeptEngine
  pub is_told : IsTold old told
  pub unbegun : IsRewriteUnrotated MayFail told new e

-- all is told, a new file is begun, and of the regions of all tables the records of some moved
pub record AreSomeMovedAgain (MayFail : Failures) (old new : KeptEngine) (e : Error) : Type 0 where
  pub was : old.intact ≡ true
  pub told : KeptEngine
  pub is_told : IsTold old told
  pub begun : KeptEngine
  pub is_begun : IsRewriteRotated told begun
  pub regions : List ℕ
  pub all : AreRegions old.accessor.tables regions
  pub some : AreSomeRegionsMovedAgain MayFail regions begun new e

-- it isn't told, or in part: where nothing was asked, for one of those reasons, the engine is as it was; or it is told alone; or of the
-- records some moved
abbrev pub AreUnmovedAgain : Failures → KeptEngine → KeptEngine → Error → Type 0
AreUnmovedAgain MayFail old new e = IsUntold MayFail old new e ⊎ IsToldAlone MayFail old new e ⊎ AreSomeMovedAgain MayFail old new e
