-- Tables that are read back of the append files.
use Rattle.std.specs.Prelude.{◌≡◌, ℕ, List, [], ◌∷◌, ◌++◌, Option, None, length}
use Rattle.std.specs.List.{AllByRecursion}
use Rattle.raft_base.specs.declared.entry_index.EntryIndex.{EntryIndex}
use Rattle.raft_base.specs.declared.pipe_log.LogQueue.{LogQueue}
use Rattle.raft_base.specs.declared.pipe_log.LogQueue.TheVariants.{Append, Rewrite}
use Rattle.raft_base.specs.declared.pipe_log.Version.{Version}
use Rattle.raft_records.specs.LogBatch.{Batch}
use Rattle.raft_table.specs.Table.{Table}
use Rattle.raft_history.specs.Batches.{Event}
use Rattle.raft_history.specs.Histories.{IsOneReading, IsSoundIn}
use Rattle.raft_history.specs.RegionSteps.{Tables}
use Rattle.raft_accessor.specs.Accessor.{Accessor}
use Rattle.raft_accessor.specs.Writes.{Appending, AreWritten, Rewriting}
use Rattle.raft_contexts.specs.MovedPlaces.{AreMovedTables}
use Rattle.raft_files.specs.Asks.{Ask, Found, NumberedBytes, Put, acts_on, ask}
use Rattle.raft_files.specs.Disk.{begun}
use Rattle.raft_recover.specs.Files.{FilesHold}
use Rattle.raft_engine_laws.specs.Telling.{TakeAway}
use Rattle.raft_engine_prefixes.specs.Done.{AreRisingFrom, numbers}
use Rattle.raft_engine_prefixes.specs.TornTails.{FilesHoldTorn}
use Rattle.raft_engine.specs.BatchBytes.{bytes_for, placed_at}
use Rattle.raft_engine.specs.GroupBatches.{IsGroupMoving, placed_from, puts_asks}
use Rattle.raft_engine.specs.KeptEngine.{IsLastFile}
use Rattle.raft_engine.specs.Rewriting.{IsBatchMoving}
use Rattle.raft_engine.specs.StoredAsks.{IsWritableBatch}

-- files of a queue that were found held no batch
abbrev pub NoneFound : LogQueue → Version → List Ask → Type 0
NoneFound queue version asks = (since earlier : List Ask) (files : List NumberedBytes) → asks ≡ since ++ ask queue (Found files) ∷ earlier → FilesHoldTorn queue version files []

-- batches that put nothing: they have no entries, and of changes of keys deletions alone
abbrev pub PutNothing : List Event → Type 0
PutNothing h = AllByRecursion (λ (e : Event). TakeAway e.items) h

-- no record moved: the batches that rewrite files hold, deleted ones too, put nothing (an intact engine's files hold some, or none)
abbrev pub NothingMoved : Version → List Ask → Type 0
NothingMoved version asks = (h : List Event) → FilesHold Rewrite version (begun (acts_on Rewrite asks)) h → PutNothing h

-- The append files, deleted ones too, hold batches of which one reading gives the cleaned regions of an accessor and its
-- tables, but for places and files that moved to the rewrite queue; and its very tables, if no record moved.
pub record IsReadBack (version : Version) (asks : List Ask) (accessor : Accessor) : Type 0 where
  pub batches : List Event
  pub held : FilesHold Append version (begun (acts_on Append asks)) batches
  pub sound : IsSoundIn Append batches
  pub read : Tables
  pub reading : IsOneReading Append batches read accessor.cleaned
  pub moved : AreMovedTables accessor.tables read
  pub unmoved : NothingMoved version asks → accessor.tables ≡ read

-- so it is, if the rewrite files that were found held no batch
abbrev pub IsReadBackAlone : Version → List Ask → Accessor → Type 0
IsReadBackAlone version asks accessor = NoneFound Rewrite version asks → IsReadBack version asks accessor

-- ---- what batches make of it

-- a batch that is put behind the last append file, and written to the tables, is read back too
abbrev pub WrittenBatchesAreReadBack : Type 0
WrittenBatchesAreReadBack =
    (version : Version) (asks : List Ask) (old new : Accessor) (first seq : ℕ) (bytes : List ℕ) (batch : Batch)
    → IsLastFile Append asks seq bytes → AreRisingFrom first (numbers (begun (acts_on Append asks))) → IsWritableBatch batch
    → AreWritten Appending (placed_at (record { queue = Append; seq = seq }) (length bytes) batch) old new → IsReadBack version asks old
    → IsReadBack version (ask Append (Put (bytes_for (record { id = record { queue = Append; seq = seq }; version = version }) batch)) ∷ asks) new

-- a batch that moves records of a table, put behind the last rewrite file, and written to the tables by a rewriting, leaves what is read back
abbrev pub MovedBatchesAreReadBack : Type 0
MovedBatchesAreReadBack =
    (version : Version) (before asks : List Ask) (old new : Accessor) (seq : ℕ) (bytes : List ℕ) (gate : Option ℕ) (left : List EntryIndex) (t : Table) (batch : Batch) (rewritten : List Event)
    → IsLastFile Rewrite asks seq bytes → FilesHold Rewrite version (begun (acts_on Rewrite asks)) rewritten → IsWritableBatch batch → IsBatchMoving gate left t before asks batch
    → AreWritten (Rewriting gate seq) (placed_at (record { queue = Rewrite; seq = seq }) (length bytes) batch) old new → IsReadBack version asks old
    → IsReadBack version (ask Rewrite (Put (bytes_for (record { id = record { queue = Rewrite; seq = seq }; version = version }) batch)) ∷ asks) new

-- so do the batches of a group that moves a table's rewritten records, put there one after another, once the items of all are written to the tables
abbrev pub MovedGroupsAreReadBack : Type 0
MovedGroupsAreReadBack =
    (version : Version) (before asks : List Ask) (old new : Accessor) (seq : ℕ) (bytes : List ℕ) (group : ℕ) (t : Table) (batches : List Batch) (rewritten : List Event)
    → IsLastFile Rewrite asks seq bytes → FilesHold Rewrite version (begun (acts_on Rewrite asks)) rewritten → AllByRecursion IsWritableBatch batches → IsGroupMoving t before asks group batches
    → AreWritten (Rewriting None seq) (placed_from (record { queue = Rewrite; seq = seq }) (length bytes) batches) old new → IsReadBack version asks old
    → IsReadBack version (puts_asks (record { id = record { queue = Rewrite; seq = seq }; version = version }) batches asks) new
