-- As which engine an `Engine` is seen, and what it keeps.
use Rattle.std.specs.Prelude.{◌≡◌, ℕ, Bool, true, List, ◌∷◌, [], ◌++◌, length}
use Rattle.raft_base.specs.declared.pipe_log.LogQueue.{LogQueue}
use Rattle.raft_base.specs.declared.pipe_log.LogQueue.TheVariants.{Append, Rewrite}
use Rattle.raft_base.specs.declared.pipe_log.Version.{Version}
use Rattle.raft_records.specs.Item.{Item}
use Rattle.raft_records.specs.LogBatch.{Batch, empty_batch}
use Rattle.raft_history.specs.RegionSteps.{Tables}
use Rattle.raft_accessor.specs.Accessor.{Accessor}
use Rattle.raft_files.specs.Asks.{Ask, IsTrusted, NoSyncFailed, NumberedBytes, acts_on}
use Rattle.raft_files.specs.Disk.{begun, deletions}
use Rattle.raft_engine_laws.specs.Telling.{TakeAway}
use Rattle.raft_engine_prefixes.specs.Done.{numbers}
use Rattle.raft_engine.specs.KeptEngine.{KeptEngine}
use Rattle.raft_engine.specs.ReadBack.{IsReadBackAlone}
use Rattle.raft_engine.specs.Stored.{AreKeptStored, Bases}
use Rattle.raft_engine.specs.declared.engine.Engine.TheInside.{Inside}
use Rattle.raft_engine.specs.declared.queue_files.QueueFiles.{QueueFiles}

-- the engine, by what was asked of its files
abbrev pub engine_shown : {F : Type 0} → (F → List Ask) → Inside F → KeptEngine
engine_shown asked e = record { version = e.version; asks = asked e.files; untold = e.untold; accessor = e.accessor; intact = e.intact }

-- the files of a queue that weren't deleted: the closed ones have these numbers, and the last one has this number and so many bytes
pub record AreFilesOf (queue : LogQueue) (asks : List Ask) (files : QueueFiles) : Type 0 where
  pub gone : List NumberedBytes
  pub closed : List NumberedBytes
  pub bytes : List ℕ
  pub are : begun (acts_on queue asks) ≡ gone ++ (closed ++ (files.seq, bytes) ∷ [])
  pub deleted : deletions (acts_on queue asks) ≡ length gone
  pub have : files.closed.items ≡ numbers closed
  pub ends : files.len ≡ length bytes

-- an intact engine has these tables, a batch of these untold items, which put nothing, and knows the files of both queues, of which no sync failed; if rewrite files that were found held no batch, its tables are read back of the append files
pub record IsIntact (version : Version) (asks : List Ask) (append rewrite : QueueFiles) (batch : Batch) (accessor : Accessor) (untold : List Item) (tables : Tables) : Type 0 where
  pub are_tables : accessor.tables ≡ tables
  pub are_untold : batch ≡ record empty_batch { items = untold }
  pub take_away : TakeAway untold
  pub append_files : AreFilesOf Append asks append
  pub rewrite_files : AreFilesOf Rewrite asks rewrite
  pub unfailed : NoSyncFailed asks
  pub read_back : IsReadBackAlone version asks accessor

-- what was asked of the files is stored as some tables and untold items, and lasted ever; nothing but reads was asked since a sync failed; those that it is stored as now an intact engine has
pub record IsKeptBy (version : Version) (asks : List Ask) (append rewrite : QueueFiles) (batch : Batch) (accessor : Accessor) (intact : Bool) : Type 0 where
  pub base : Bases
  pub untold : List Item
  pub tables : Tables
  pub stored : AreKeptStored version asks base untold tables
  pub trusted : IsTrusted asks
  pub whole : intact ≡ true → IsIntact version asks append rewrite batch accessor untold tables

-- an engine keeps what was asked of its files
abbrev pub IsKept : {F : Type 0} → (F → List Ask) → Inside F → Type 0
IsKept asked e = IsKeptBy e.version (asked e.files) e.append e.rewrite e.untold e.accessor e.intact
