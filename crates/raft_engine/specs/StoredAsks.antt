-- What each ask makes of what is stored.
use Rattle.std.specs.Prelude.{◌≡◌, suc, ◌≢◌, ℕ, ◌+◌, ◌<◌, ◌^◌, List, [], ◌∷◌, ◌++◌, Some, length}
use Rattle.std.specs.FinMap as finite
use Rattle.raft_base.specs.declared.entry_index.EntryIndex.{EntryIndex}
use Rattle.raft_base.specs.declared.pipe_log.LogQueue.{LogQueue}
use Rattle.raft_base.specs.declared.pipe_log.LogQueue.TheVariants.{Append, Rewrite}
use Rattle.raft_base.specs.declared.pipe_log.Version.{Version}
use Rattle.raft_records.specs.Item.{Item, AreInBytes}
use Rattle.raft_records.specs.LogBatch.{Batch, IsBatchOf, encoded_length}
use Rattle.raft_records.specs.Range.{AreInRange}
use Rattle.raft_history.specs.Batches.{Event}
use Rattle.raft_history.specs.RegionSteps.{Tables}
use Rattle.raft_accessor.specs.Writes.{Appending, after_items}
use Rattle.raft_files.specs.Asks.{Ask, Begin, Delete, NumberedBytes, Put, Sync, Unsynced, acts_on, ask}
use Rattle.raft_files.specs.Disk.{begun, deletions}
use Rattle.raft_engine_laws.specs.DeletedFiles.{AreLeastFrom}
use Rattle.raft_engine_laws.specs.Records.{Records, no_base}
use Rattle.raft_engine_laws.specs.GroupsInRows.{AreGroupsInRows}
use Rattle.raft_engine_laws.specs.Crashes.{Deed, IsLeft, LoseNothing, synced, written}
use Rattle.raft_engine_laws.specs.Telling.{TakeAway, taking_items, told_items}
use Rattle.raft_engine_prefixes.specs.Done.{AreDone}
use Rattle.raft_engine_prefixes.specs.Prefixes.{ArePut}
use Rattle.raft_engine.specs.BatchBytes.{bytes_for, placed_at}
use Rattle.raft_engine.specs.JoinedFiles.{BatchesJoin, FoundFilesJoin}
use Rattle.raft_engine.specs.KeptEngine.{IsLastFile}
use Rattle.raft_engine.specs.Lasting.{AreSynced, IsLastingAfter}
use Rattle.raft_engine.specs.Stored.{AreKeptStored, Bases}
use Rattle.raft_engine.specs.WellPut.{AreWellPut}

-- where what is done to both queues loses nothing in a crash, each group of the rewrite queue stands in a row, all is well put, and of what is left no rewritten entries stay in front, where of the found files none do, the batches that were written last
abbrev pub WhatIsDoneLasts : Type 0
WhatIsDoneLasts =
    (content : EntryIndex → List ℕ) (version : Version) (base : ℕ → Records) (asks : List Ask) (appended rewritten : List Deed)
    → AreDone Append version (acts_on Append asks) appended → AreDone Rewrite version (acts_on Rewrite asks) rewritten
    → ArePut Append version (acts_on Append asks) (synced appended) (written appended)
    → ((queue : LogQueue) → AreWellPut queue version (acts_on queue asks))
    → AreGroupsInRows (written rewritten) → LoseNothing content base appended rewritten
    → (FoundFilesJoin version asks → (standing append others rewrite : List Event) → IsLeft appended standing append → IsLeft rewritten others rewrite → BatchesJoin append rewrite)
    → (lasting : IsLastingAfter content version base asks) × (lasting.batches ≡ written appended)

-- the first file of each queue is stored as no tables
abbrev pub FirstFilesAreStored : Type 0
FirstFilesAreStored =
    (version : Version) → AreKeptStored version (ask Rewrite (Begin 1) ∷ ask Append (Begin 1) ∷ []) (λ content. no_base) [] finite.empty

-- a sync of any queue leaves what is stored
abbrev pub SyncsAreStored : Type 0
SyncsAreStored =
    (queue : LogQueue) (version : Version) (asks : List Ask) (base : Bases) (untold : List Item) (tables : Tables)
    → AreKeptStored version asks base untold tables → AreKeptStored version (ask queue Sync ∷ asks) base untold tables

-- so does one that failed
abbrev pub FailedSyncsAreStored : Type 0
FailedSyncsAreStored =
    (queue : LogQueue) (version : Version) (asks : List Ask) (base : Bases) (untold : List Item) (tables : Tables)
    → AreKeptStored version asks base untold tables → AreKeptStored version (ask queue Unsynced ∷ asks) base untold tables

-- so does a new file of a queue that is synced
abbrev pub NewFilesAreStored : Type 0
NewFilesAreStored =
    (queue : LogQueue) (version : Version) (asks : List Ask) (base : Bases) (untold : List Item) (tables : Tables) (seq : ℕ) (bytes : List ℕ) (next : ℕ)
    → AreSynced (acts_on queue asks) → IsLastFile queue asks seq bytes → next ≡ suc seq
    → AreKeptStored version asks base untold tables → AreKeptStored version (ask queue (Begin next) ∷ asks) base untold tables

-- a batch whose bytes can be put behind those of a file
pub record IsWritableBatch (batch : Batch) : Type 0 where
  pub tiled : IsBatchOf batch.items batch.entry_bytes
  pub in_range : AreInRange batch.items
  pub in_bytes : AreInBytes batch.items
  pub some : batch.items ≢ []
  pub short : encoded_length batch.items batch.entry_bytes < 2 ^ 56

-- a batch that is put behind the append queue's last file is stored as the tables that take it, and what it takes away of the tables before isn't told
abbrev pub WrittenBatchesAreStored : Type 0
WrittenBatchesAreStored =
    (version : Version) (asks : List Ask) (base : Bases) (untold : List Item) (tables new : Tables) (seq : ℕ) (bytes : List ℕ) (batch : Batch)
    → IsLastFile Append asks seq bytes → IsWritableBatch batch
    → after_items Appending tables (placed_at (record { queue = Append; seq = seq }) (length bytes) batch) ≡ Some new
    → AreKeptStored version asks base untold tables
    → AreKeptStored version (ask Append (Put (bytes_for (record { id = record { queue = Append; seq = seq }; version = version }) batch)) ∷ asks)
    base (untold ++ told_items (taking_items tables batch.items)) new

-- where the append queue is synced, all that is untold may be put behind the rewrite queue's last file: nothing is untold then
abbrev pub ToldBatchesAreStored : Type 0
ToldBatchesAreStored =
    (version : Version) (asks : List Ask) (base : Bases) (tables : Tables) (seq : ℕ) (bytes : List ℕ) (batch : Batch)
    → AreSynced (acts_on Append asks) → IsLastFile Rewrite asks seq bytes → IsWritableBatch batch → TakeAway batch.items
    → AreKeptStored version asks base batch.items tables
    → AreKeptStored version (ask Rewrite (Put (bytes_for (record { id = record { queue = Rewrite; seq = seq }; version = version }) batch)) ∷ asks) base [] tables

-- where both queues are synced and nothing is untold, the oldest file of this queue may be deleted, if another one follows and no table needs it
abbrev pub DeletionsAreStored : LogQueue → Type 0
DeletionsAreStored queue =
    (version : Version) (asks : List Ask) (base : Bases) (tables : Tables) (gone rest : List NumberedBytes) (oldest next : NumberedBytes)
    → AreSynced (acts_on Append asks) → AreSynced (acts_on Rewrite asks)
    → begun (acts_on queue asks) ≡ gone ++ oldest ∷ next ∷ rest → deletions (acts_on queue asks) ≡ length gone
    → AreLeastFrom queue (oldest.0 + 1) tables
    → AreKeptStored version asks base [] tables → AreKeptStored version (ask queue Delete ∷ asks) base [] tables
