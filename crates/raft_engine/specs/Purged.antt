-- Files that no table needs, and their deletion.
use Rattle.std.specs.Prelude.{◌≡◌, ◌≢◌, ◌⊎◌, ℕ, zero, suc, ◌+◌, ◌<◌, ◌^◌, ◌≤◌, true, false, List, [], ◌∷◌, ◌++◌, length, min, nat_lt, Option, Some, None, if◌then◌else◌}
use Rattle.std.specs.List.{AllByRecursion}
use Rattle.raft_base.specs.declared.errors.Error.{Error}
use Rattle.raft_base.specs.declared.errors.Error.TheVariants as errors
use Rattle.raft_base.specs.declared.pipe_log.LogFileContext.{LogFileContext}
use Rattle.raft_base.specs.declared.pipe_log.LogQueue.{LogQueue}
use Rattle.raft_base.specs.declared.pipe_log.LogQueue.TheVariants.{Append, Rewrite}
use Rattle.raft_records.specs.LogBatch.{Batch, empty_batch, encoded_length}
use Rattle.raft_table.specs.Least.{least_of}
use Rattle.raft_table.specs.Table.{Table}
use Rattle.raft_history.specs.RegionSteps.{Tables}
use Rattle.raft_files.specs.Asks.{Ask, Delete, Put, Sync, ask}
use Rattle.raft_files.specs.Disk.{files_of}
use Rattle.raft_engine_prefixes.specs.Done.{numbers}
use Rattle.raft_engine_laws.specs.DeletedFiles.{AreLeastFrom}
use Rattle.raft_engine.specs.BatchBytes.{bytes_for}
pub use Rattle.raft_engine.specs.BatchBytes.{asks_of_items, put_asks}
use Rattle.raft_engine.specs.Broken.{IsBrokenTelling}
use Rattle.raft_engine.specs.FileFailures.{Failures}
use Rattle.raft_engine.specs.KeptEngine.{IsLastFile, KeptEngine}
use Rattle.raft_engine.specs.WrittenBatch.{IsLastFull, file_of}

-- ---- which files

-- the least number of a file of the queue that a table needs, or this last one, if that is less
pub record IsLeastNeeded (queue : LogQueue) (tables : Tables) (last least : ℕ) : Type 0 where
  pub at_most : least ≤ last
  pub from : AreLeastFrom queue least tables
  pub needed : least < last → AreLeastFrom queue (least + 1) tables → ⊥

-- the lesser of a number and another one, if it is there
abbrev pub lowered : ℕ → Option ℕ → ℕ
lowered n None = n
lowered n (Some m) = min n m

-- the same among these tables
abbrev pub least_among : LogQueue → ℕ → List Table → ℕ
least_among queue last [] = last
least_among queue last (t ∷ ts) = least_among queue (lowered last (least_of queue t)) ts

-- how many of these numbers are below another one, from the first on
abbrev pub front_below : ℕ → List ℕ → ℕ
front_below least [] = 0
front_below least (n ∷ ns) = if nat_lt n least then suc (front_below least ns) else 0

-- no table needs the queue's file of this number, nor an older one: the least file of each is above it
abbrev pub IsExpired : LogQueue → Tables → ℕ → Type 0
IsExpired queue tables seq = AreLeastFrom queue (seq + 1) tables

-- the last one of these numbers, or one whose file isn't expired, is the first
abbrev pub BeginWithNeeded : LogQueue → Tables → List ℕ → Type 0
BeginWithNeeded queue tables [] = ⊥
BeginWithNeeded queue tables (seq ∷ []) = Unit {0}
BeginWithNeeded queue tables (seq ∷ next ∷ seqs) = IsExpired queue tables seq → ⊥

-- of the queue's files the oldest ones, so many, are expired: all that are, but the last file
pub record AreExpired (queue : LogQueue) (engine : KeptEngine) (count : ℕ) : Type 0 where
  pub expired : List ℕ
  pub rest : List ℕ
  pub split : numbers (files_of queue engine.asks) ≡ expired ++ rest
  pub many : length expired ≡ count
  pub are : AllByRecursion (IsExpired queue engine.accessor.tables) expired
  pub no_more : BeginWithNeeded queue engine.accessor.tables rest

-- some file of the queue is expired
abbrev pub AreSomeExpired : LogQueue → KeptEngine → Type 0
AreSomeExpired queue engine = (count : ℕ) × AreExpired queue engine count × (0 < count)

-- ---- what is asked

-- so many of the queue's oldest files are deleted
abbrev pub delete_asks : LogQueue → ℕ → List Ask
delete_asks queue zero = []
delete_asks queue (suc count) = ask queue Delete ∷ delete_asks queue count

-- newest first: files of a queue are deleted once the rewrite queue is synced, which is told what is untold once the append queue is synced
abbrev pub purge_asks : LogQueue → LogFileContext → Batch → ℕ → List Ask
purge_asks queue file untold count = delete_asks queue count ++ (ask Rewrite Sync ∷ (put_asks file untold ++ ask Append Sync ∷ []))

-- the rewrite queue is synced, and then so many files of a queue are deleted; nothing else is asked or changed
abbrev pub AreDeleted : LogQueue → ℕ → KeptEngine → KeptEngine → Type 0
AreDeleted queue count old new = new ≡ record old { asks = delete_asks queue count ++ (ask Rewrite Sync ∷ old.asks) }

-- so many files of a queue, one at least, are deleted, and nothing is untold then; nothing else is asked or changed
pub record IsPurged (queue : LogQueue) (count : ℕ) (old new : KeptEngine) : Type 0 where
  pub some : 0 < count
  pub seq : ℕ
  pub bytes : List ℕ
  pub last : IsLastFile Rewrite old.asks seq bytes
  pub purged : new ≡ record old { asks = purge_asks queue (file_of Rewrite old seq) old.untold count ++ old.asks; untold = empty_batch }

-- no file of a queue is expired, and nothing is asked or changed; or all that are, are deleted
abbrev pub AreFilesPurged : LogQueue → ℕ → KeptEngine → KeptEngine → Type 0
AreFilesPurged queue count old new = AreExpired queue old count × (((count ≡ 0) × (new ≡ old)) ⊎ IsPurged queue count old new)

-- the same of the append queue
abbrev pub ArePurged : ℕ → KeptEngine → KeptEngine → Type 0
ArePurged count old new = AreFilesPurged Append count old new

-- ---- where it fails

-- why nothing is asked to tell the rewrite queue what is untold, or for a purge: the engine isn't intact, what is untold has 2^56
-- bytes or more or the last rewrite file more than 2^63, or there is no memory
abbrev pub IsPurgeRefusal : KeptEngine → Error → Type 0
IsPurgeRefusal engine errors.Failed = engine.intact ≡ false
IsPurgeRefusal engine errors.Full = (engine.intact ≡ true) × ((2 ^ 56 ≤ encoded_length engine.untold.items engine.untold.entry_bytes) ⊎ IsLastFull Rewrite engine.asks)
IsPurgeRefusal engine errors.Memory = engine.intact ≡ true
IsPurgeRefusal engine _ = ⊥

-- an intact engine's append queue is synced, and the files fail to put what is untold behind the last rewrite file, and take back what
-- they put of it: nothing else is asked or changed
pub record IsTellingTakenBack (MayFail : Failures) (old new : KeptEngine) (e : Error) : Type 0 where
  pub was : old.intact ≡ true
  pub some : old.untold.items ≢ []
  pub seq : ℕ
  pub bytes : List ℕ
  pub last : IsLastFile Rewrite old.asks seq bytes
  pub synced : new ≡ record old { asks = ask Append Sync ∷ old.asks }
  pub why : MayFail (ask Append Sync ∷ old.asks) (ask Rewrite (Put (bytes_for (file_of Rewrite old seq) old.untold))) e

-- the files fail in the midst of what is to be asked to delete a queue's expired files, one at least
pub record IsHalfPurged (MayFail : Failures) (queue : LogQueue) (old new : KeptEngine) (e : Error) : Type 0 where
  pub count : ℕ
  pub some : 0 < count
  pub expired : AreExpired queue old count
  pub seq : ℕ
  pub bytes : List ℕ
  pub last : IsLastFile Rewrite old.asks seq bytes
  pub broken : IsBrokenTelling MayFail (purge_asks queue (file_of Rewrite old seq) old.untold count) old new e

-- nothing was asked, for one of these reasons, `Full` only if some file of the queue is expired, and the engine is as it was; or it is half done; or some file
-- is expired, and what was to be told before was taken back
abbrev pub AreFilesUnpurged : Failures → LogQueue → KeptEngine → KeptEngine → Error → Type 0
AreFilesUnpurged MayFail queue old new e =
    ((new ≡ old) × IsPurgeRefusal old e × (e ≡ errors.Full → AreSomeExpired queue old)) ⊎ IsHalfPurged MayFail queue old new e
    ⊎ (AreSomeExpired queue old × IsTellingTakenBack MayFail old new e)

-- the same of the append queue
abbrev pub IsUnpurged : Failures → KeptEngine → KeptEngine → Error → Type 0
IsUnpurged MayFail old new e = AreFilesUnpurged MayFail Append old new e
