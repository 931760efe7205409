-- Regions whose rewritten records move to a new file: in one batch if their entries are one part, else in an atomic group.
use Rattle.std.specs.Prelude.{◌≡◌, ◌≢◌, ◌⊎◌, ℕ, false, List, [], ◌∷◌, ◌++◌, length, Some, None}
use Rattle.std.specs.FinMap as finite
use Rattle.raft_base.specs.declared.errors.Error.{Error}
use Rattle.raft_base.specs.declared.errors.Error.TheVariants as errors
use Rattle.raft_base.specs.declared.pipe_log.LogQueue.TheVariants.{Rewrite}
use Rattle.raft_records.specs.LogBatch.{Batch}
use Rattle.raft_table.specs.Table.{Table}
use Rattle.raft_accessor.specs.Writes.{AreWritten, Rewriting}
use Rattle.raft_files.specs.Asks.{Ask}
use Rattle.raft_engine.specs.GroupBatches.{placed_from, puts_asks}
use Rattle.raft_engine.specs.GroupParts.{IsGroupInParts, IsGroupRefused}
use Rattle.raft_engine.specs.GroupPlaces.{IsOneTooLong}
use Rattle.raft_engine.specs.KeptEngine.{IsLastFile, KeptEngine, table_in}
use Rattle.raft_engine.specs.Moved.{IsOnlyRead, IsRegionRewritten, IsRegionUnmoved}
use Rattle.raft_engine.specs.Parts.{AreOnePart}
use Rattle.raft_engine.specs.Rewriting.{moving_entries}
use Rattle.raft_engine.specs.Untaken.{AreUntaken}
use Rattle.raft_engine.specs.WrittenBatch.{file_of}
use Rattle.raft_engine.specs.FileFailures.{Failures, FailsAmong}

-- ---- one region, in a group

-- the batches of a group of this number have what a region's table has in rewrite files; its entries are read, and nothing else is asked
pub record IsGroupOf (region : ℕ) (old : KeptEngine) (between : List Ask) (group : ℕ) (batches : List Batch) : Type 0 where
  pub table : Table
  pub there : finite.get old.accessor.tables region ≡ Some table
  pub parts : IsGroupInParts table old.asks between group batches

-- they are put behind the last rewrite file, one after another, the group has the number of the file, and the items of all of them, with their places there, are
-- written to the tables by a rewriting; nothing else is asked or changed
pub record IsGroupMoved (region : ℕ) (old new : KeptEngine) : Type 0 where
  pub between : List Ask
  pub batches : List Batch
  pub seq : ℕ
  pub bytes : List ℕ
  pub last : IsLastFile Rewrite old.asks seq bytes
  pub group : IsGroupOf region old between seq batches
  pub applied : AreWritten (Rewriting None seq) (placed_from (file_of Rewrite old seq).id (length bytes) batches) old.accessor new.accessor
  pub moved : new ≡ record old { asks = puts_asks (file_of Rewrite old seq) batches between; accessor = new.accessor }

-- the files fail to put one of the batches of the group; or all are put, and the tables refuse one of their items, with their places there; the engine isn't intact any more
pub record IsGroupHalfMoved (MayFail : Failures) (region : ℕ) (old new : KeptEngine) (e : Error) : Type 0 where
  pub between : List Ask
  pub batches : List Batch
  pub seq : ℕ
  pub bytes : List ℕ
  pub last : IsLastFile Rewrite old.asks seq bytes
  pub group : IsGroupOf region old between seq batches
  pub why : (FailsAmong MayFail (puts_asks (file_of Rewrite old seq) batches []) between new.asks e × (new.accessor ≡ old.accessor))
      ⊎ ((new.asks ≡ puts_asks (file_of Rewrite old seq) batches between)
      × AreUntaken None seq (placed_from (file_of Rewrite old seq).id (length bytes) batches) old.accessor new.accessor e)
  pub others : new ≡ record old { asks = new.asks; accessor = new.accessor; intact = false }

-- a batch of the group is too long, or would begin past 2^63 in the last rewrite file
pub record IsGroupTooLong (region : ℕ) (old new : KeptEngine) : Type 0 where
  pub seq : ℕ
  pub bytes : List ℕ
  pub last : IsLastFile Rewrite old.asks seq bytes
  pub batches : List Batch
  pub group : IsGroupOf region old new.asks seq batches
  pub long : IsOneTooLong (length bytes) batches

-- why the records of a region don't move in a group, if there is memory: there is none of them; or it is too long
abbrev pub IsGroupRegionRefused : Failures → ℕ → KeptEngine → KeptEngine → Error → Type 0
IsGroupRegionRefused MayFail region old new e =
    ((table : Table) × (finite.get old.accessor.tables region ≡ Some table) × IsGroupRefused MayFail table old.asks new.asks e)
    ⊎ ((e ≡ errors.Full) × IsGroupTooLong region old new)

-- nothing but reads was asked, for one of these reasons; or the group is half moved
abbrev pub IsGroupUnmoved : Failures → ℕ → KeptEngine → KeptEngine → Error → Type 0
IsGroupUnmoved MayFail region old new e =
    (IsOnlyRead old new × (e ≢ errors.Memory → IsGroupRegionRefused MayFail region old new e)) ⊎ IsGroupHalfMoved MayFail region old new e

-- ---- one region, in a batch or a group

-- the rewritten entries of a region are one part
abbrev pub IsOnePartOf : ℕ → KeptEngine → Type 0
IsOnePartOf region engine = AreOnePart (moving_entries None (table_in engine region).entries)

-- what a region has in rewrite files moves in one batch if its entries are one part, else in a group
abbrev pub IsRegionMovedAgain : ℕ → KeptEngine → KeptEngine → Type 0
IsRegionMovedAgain region old new =
    (IsOnePartOf region old × IsRegionRewritten None region old new) ⊎ (¬ (IsOnePartOf region old) × IsGroupMoved region old new)

-- it doesn't, or not whole: for want of memory nothing is asked, or so it is with one batch, or with a group
abbrev pub IsRegionUnmovedAgain : Failures → ℕ → KeptEngine → KeptEngine → Error → Type 0
IsRegionUnmovedAgain MayFail region old new e =
    ((new ≡ old) × (e ≡ errors.Memory))
    ⊎ (IsOnePartOf region old × IsRegionUnmoved MayFail None region old new e)
    ⊎ (¬ (IsOnePartOf region old) × IsGroupUnmoved MayFail region old new e)

-- ---- all regions

-- the rewritten records of these regions move, one region after another
abbrev pub AreRegionsMovedAgain : List ℕ → KeptEngine → KeptEngine → Type 0
AreRegionsMovedAgain [] old new = new ≡ old
AreRegionsMovedAgain (region ∷ regions) old new =
    (between : KeptEngine) × IsRegionMovedAgain region old between × AreRegionsMovedAgain regions between new

-- of these regions the rewritten records of the first ones moved, and those of the next one didn't, or not whole
pub record AreSomeRegionsMovedAgain (MayFail : Failures) (regions : List ℕ) (old new : KeptEngine) (e : Error) : Type 0 where
  pub front : List ℕ
  pub region : ℕ
  pub back : List ℕ
  pub split : regions ≡ front ++ region ∷ back
  pub between : KeptEngine
  pub moved : AreRegionsMovedAgain front old between
  pub unmoved : IsRegionUnmovedAgain MayFail region between new e
