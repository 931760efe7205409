-- Records that an engine moves to the rewrite queue.
use Rattle.std.specs.Prelude.{◌≡◌, ◌≢◌, ◌⊎◌, ℕ, ◌^◌, ◌≤◌, true, false, List, [], ◌∷◌, ◌++◌, IsPermutation, length, map, Option, Some, None}
use Rattle.std.specs.FinMap as finite
use Rattle.raft_base.specs.declared.entry_index.EntryIndex.{EntryIndex}
use Rattle.raft_base.specs.declared.errors.Error.{Error}
use Rattle.raft_base.specs.declared.errors.Error.TheVariants as errors
use Rattle.raft_base.specs.declared.pipe_log.LogQueue.TheVariants.{Append, Rewrite}
use Rattle.raft_records.specs.LogBatch.{Batch, empty_batch, encoded_length}
use Rattle.raft_history.specs.RegionSteps.{Tables}
use Rattle.raft_table.specs.Table.{Table}
use Rattle.raft_accessor.specs.Writes.{AreWritten, Rewriting}
use Rattle.raft_files.specs.Asks.{Ask, Put, Sync, acts_on, ask}
use Rattle.raft_engine.specs.BatchBytes.{bytes_for, placed_at}
use Rattle.raft_engine.specs.Broken.{IsBrokenTelling}
use Rattle.raft_engine.specs.KeptEngine.{IsLastFile, KeptEngine}
use Rattle.raft_engine.specs.Lasting.{AreSynced}
use Rattle.raft_engine.specs.Purged.{IsPurgeRefusal, IsTellingTakenBack, put_asks}
use Rattle.raft_engine.specs.Reads.{AreOnlyRead}
use Rattle.raft_engine.specs.Rewriting.{IsBatchMoving, moving_entries}
use Rattle.raft_engine.specs.Unmoved.{IsBatchRefused}
use Rattle.raft_engine.specs.Untaken.{AreUntaken}
use Rattle.raft_engine.specs.WrittenBatch.{IsLastFull, file_of}
use Rattle.raft_engine.specs.FileFailures.{Failures, FailsAmong}

-- ---- what is told

-- the append queue is synced, and what is untold is put behind the last rewrite file, if there is any; nothing else is asked or changed
pub record IsTold (old new : KeptEngine) : Type 0 where
  pub seq : ℕ
  pub bytes : List ℕ
  pub last : IsLastFile Rewrite old.asks seq bytes
  pub told : new ≡ record old { asks = put_asks (file_of Rewrite old seq) old.untold ++ (ask Append Sync ∷ old.asks); untold = empty_batch }

-- newest first: what is asked to tell the rewrite queue, behind its last file of this number, what is untold
abbrev pub telling_asks : KeptEngine → ℕ → List Ask
telling_asks engine seq = put_asks (file_of Rewrite engine seq) engine.untold ++ ask Append Sync ∷ []

-- the files fail in the midst of it
pub record IsHalfTold (MayFail : Failures) (old new : KeptEngine) (e : Error) : Type 0 where
  pub seq : ℕ
  pub bytes : List ℕ
  pub last : IsLastFile Rewrite old.asks seq bytes
  pub broken : IsBrokenTelling MayFail (telling_asks old seq) old new e

-- nothing was asked, for one of the reasons for which nothing is asked for a purge, and the engine is as it was; or it is half done; or it was taken back
abbrev pub IsUntold : Failures → KeptEngine → KeptEngine → Error → Type 0
IsUntold MayFail old new e = ((new ≡ old) × IsPurgeRefusal old e) ⊎ IsHalfTold MayFail old new e ⊎ IsTellingTakenBack MayFail old new e

-- ---- what moves

-- an intact engine whose append queue is synced, and whose rewrite queue is told all: its records may move
pub record IsReady (engine : KeptEngine) : Type 0 where
  pub intact : engine.intact ≡ true
  pub synced : AreSynced (acts_on Append engine.asks)
  pub told : engine.untold.items ≡ []

-- a batch of the next ones of what of a region's table moves past a gate, or without one, which leaves these entries: its entries are
-- read, and nothing else is asked
pub record IsMoving (gate : Option ℕ) (left : List EntryIndex) (region : ℕ) (old : KeptEngine) (between : List Ask) (batch : Batch) : Type 0 where
  pub table : Table
  pub there : finite.get old.accessor.tables region ≡ Some table
  pub moving : IsBatchMoving gate left table old.asks between batch

-- it is put behind the last rewrite file, if it has items, and its items, with their places there, are written to the tables by a
-- rewriting; nothing else is asked or changed
pub record IsBatchMoved (gate : Option ℕ) (left : List EntryIndex) (region : ℕ) (old new : KeptEngine) : Type 0 where
  pub between : List Ask
  pub batch : Batch
  pub moving : IsMoving gate left region old between batch
  pub seq : ℕ
  pub bytes : List ℕ
  pub last : IsLastFile Rewrite old.asks seq bytes
  pub applied : AreWritten (Rewriting gate seq) (placed_at (file_of Rewrite old seq).id (length bytes) batch) old.accessor new.accessor
  pub moved : new ≡ record old { asks = put_asks (file_of Rewrite old seq) batch ++ between; accessor = new.accessor }

-- the first batches move, one after another, each of which leaves entries: the engine behind each is in the list
abbrev pub AreFirstMoved : Option ℕ → ℕ → List KeptEngine → KeptEngine → KeptEngine → Type 0
AreFirstMoved gate region [] old new = new ≡ old
AreFirstMoved gate region (next ∷ behind) old new =
    (left : List EntryIndex) × (left ≢ []) × IsBatchMoved gate left region old next × AreFirstMoved gate region behind next new

-- what of a region's table moves is put in batches, one after another, of which the last one leaves no entries
pub record IsRegionMoved (gate : Option ℕ) (region : ℕ) (old new : KeptEngine) : Type 0 where
  pub behind : List KeptEngine
  pub between : KeptEngine
  pub first : AreFirstMoved gate region behind old between
  pub last : IsBatchMoved gate [] region between new

-- a region without a table is left as it is
abbrev pub IsRegionRewritten : Option ℕ → ℕ → KeptEngine → KeptEngine → Type 0
IsRegionRewritten gate region old new = ((finite.get old.accessor.tables region ≡ None) × (new ≡ old)) ⊎ IsRegionMoved gate region old new

-- only reads are asked, and nothing else is changed
pub record IsOnlyRead (old new : KeptEngine) : Type 0 where
  pub asked : AreOnlyRead old.asks new.asks
  pub others : new ≡ record old { asks = new.asks }

-- the files fail to put a batch that moves a region's records; or it is put, and the tables refuse one of its items, with their places there; the engine isn't intact any more
pub record IsBatchHalfMoved (MayFail : Failures) (gate : Option ℕ) (left : List EntryIndex) (region : ℕ) (old new : KeptEngine) (e : Error) : Type 0 where
  pub between : List Ask
  pub batch : Batch
  pub moving : IsMoving gate left region old between batch
  pub seq : ℕ
  pub bytes : List ℕ
  pub last : IsLastFile Rewrite old.asks seq bytes
  pub why : (FailsAmong MayFail (put_asks (file_of Rewrite old seq) batch) between new.asks e × (new.accessor ≡ old.accessor))
      ⊎ ((new.asks ≡ put_asks (file_of Rewrite old seq) batch ++ between)
      × AreUntaken gate seq (placed_at (file_of Rewrite old seq).id (length bytes) batch) old.accessor new.accessor e)
  pub others : new ≡ record old { asks = new.asks; accessor = new.accessor; intact = false }

-- why a batch of a region's records doesn't move, if there is memory: the last rewrite file has more than 2^63 bytes; or there is no
-- such batch; or it has 2^56 bytes or more
abbrev pub IsMoveRefused : Failures → Option ℕ → List EntryIndex → ℕ → KeptEngine → KeptEngine → Error → Type 0
IsMoveRefused MayFail gate left region old new e =
    ((e ≡ errors.Full) × (new ≡ old) × IsLastFull Rewrite old.asks)
    ⊎ ((table : Table) × (finite.get old.accessor.tables region ≡ Some table) × IsBatchRefused MayFail gate left table old.asks new.asks e)
    ⊎ ((batch : Batch) × IsMoving gate left region old new.asks batch × (e ≡ errors.Full) × (2 ^ 56 ≤ encoded_length batch.items batch.entry_bytes))

-- the files fail to put a batch that moves a region's records, and take back what they put of it: nothing but reads is asked, and nothing else is changed
pub record IsBatchTakenBack (MayFail : Failures) (gate : Option ℕ) (left : List EntryIndex) (region : ℕ) (old new : KeptEngine) (e : Error) : Type 0 where
  pub batch : Batch
  pub some : batch.items ≢ []
  pub moving : IsMoving gate left region old new.asks batch
  pub seq : ℕ
  pub bytes : List ℕ
  pub last : IsLastFile Rewrite old.asks seq bytes
  pub why : MayFail new.asks (ask Rewrite (Put (bytes_for (file_of Rewrite old seq) batch))) e
  pub others : new ≡ record old { asks = new.asks }

-- nothing but reads was asked, for one of these reasons; or the batch is half moved; or its bytes were taken back
abbrev pub IsBatchUnmoved : Failures → Option ℕ → List EntryIndex → ℕ → KeptEngine → KeptEngine → Error → Type 0
IsBatchUnmoved MayFail gate left region old new e =
    (IsOnlyRead old new × (e ≢ errors.Memory → IsMoveRefused MayFail gate left region old new e)) ⊎ IsBatchHalfMoved MayFail gate left region old new e
    ⊎ IsBatchTakenBack MayFail gate left region old new e

-- the first batches of a region's records moved, and the next one didn't, or not whole
pub record IsRegionUnmoved (MayFail : Failures) (gate : Option ℕ) (region : ℕ) (old new : KeptEngine) (e : Error) : Type 0 where
  pub behind : List KeptEngine
  pub between : KeptEngine
  pub first : AreFirstMoved gate region behind old between
  pub left : List EntryIndex
  pub unmoved : IsBatchUnmoved MayFail gate left region between new e

-- ---- entries that are to move

-- these entries of a region's table move past a gate, or without one
pub record AreToMove (gate : Option ℕ) (region : ℕ) (engine : KeptEngine) (es : List EntryIndex) : Type 0 where
  pub table : Table
  pub there : finite.get engine.accessor.tables region ≡ Some table
  pub are : es ≡ moving_entries gate table.entries

-- ---- all regions

-- the records of these regions move, one region after another
abbrev pub AreRegionsRewritten : Option ℕ → List ℕ → KeptEngine → KeptEngine → Type 0
AreRegionsRewritten gate [] old new = new ≡ old
AreRegionsRewritten gate (region ∷ regions) old new =
    (between : KeptEngine) × IsRegionRewritten gate region old between × AreRegionsRewritten gate regions between new

-- the regions of all tables
abbrev pub AreRegions : Tables → List ℕ → Type 0
AreRegions tables regions = IsPermutation regions (map (λ (t : Table). t.region_id) (finite.values tables))

-- once all is told, the records of the regions of all tables move, one region after another
pub record IsRewritten (gate : ℕ) (old new : KeptEngine) : Type 0 where
  pub told : KeptEngine
  pub is_told : IsTold old told
  pub regions : List ℕ
  pub all : AreRegions old.accessor.tables regions
  pub moved : AreRegionsRewritten (Some gate) regions told new

-- of these regions the records of the first ones moved, and those of the next one didn't, or not whole
pub record AreSomeRewritten (MayFail : Failures) (gate : Option ℕ) (regions : List ℕ) (old new : KeptEngine) (e : Error) : Type 0 where
  pub front : List ℕ
  pub region : ℕ
  pub back : List ℕ
  pub split : regions ≡ front ++ region ∷ back
  pub between : KeptEngine
  pub moved : AreRegionsRewritten gate front old between
  pub unmoved : IsRegionUnmoved MayFail gate region between new e

-- all is told, and of the regions of all tables the records of some moved
pub record IsHalfRewritten (MayFail : Failures) (gate : ℕ) (old new : KeptEngine) (e : Error) : Type 0 where
  pub was : old.intact ≡ true
  pub told : KeptEngine
  pub is_told : IsTold old told
  pub regions : List ℕ
  pub all : AreRegions old.accessor.tables regions
  pub some : AreSomeRewritten MayFail (Some gate) regions told new e

-- it isn't told, or in part: where nothing was asked, for one of those reasons, the engine is as it was; or of the records some moved
abbrev pub IsUnrewritten : Failures → ℕ → KeptEngine → KeptEngine → Error → Type 0
IsUnrewritten MayFail gate old new e = IsUntold MayFail old new e ⊎ IsHalfRewritten MayFail gate old new e
