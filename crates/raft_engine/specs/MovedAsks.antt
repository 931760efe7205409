-- What a read, and a batch that moves records, make of what is stored.
use Rattle.std.specs.Prelude.{◌≡◌, ℕ, List, [], ◌∷◌, Option, Some, length}
use Rattle.std.specs.FinMap as finite
use Rattle.raft_base.specs.declared.entry_index.EntryIndex.{EntryIndex}
use Rattle.raft_base.specs.declared.pipe_log.FileBlockHandle.{FileBlockHandle}
use Rattle.raft_base.specs.declared.pipe_log.LogQueue.{LogQueue}
use Rattle.raft_base.specs.declared.pipe_log.LogQueue.TheVariants.{Append, Rewrite}
use Rattle.raft_base.specs.declared.pipe_log.Version.{Version}
use Rattle.raft_records.specs.Item.{Item}
use Rattle.raft_records.specs.LogBatch.{Batch}
use Rattle.raft_history.specs.RegionSteps.{Tables}
use Rattle.raft_table.specs.Table.{Table}
use Rattle.raft_table.specs.TableEntries.{AreTableEntries}
use Rattle.raft_accessor.specs.Writes.{Rewriting, after_items}
use Rattle.raft_files.specs.Asks.{Ask, Put, Read, acts_on, ask}
use Rattle.raft_engine.specs.BatchBytes.{bytes_for, placed_at}
use Rattle.raft_engine.specs.KeptEngine.{IsLastFile}
use Rattle.raft_engine.specs.Lasting.{AreSynced}
use Rattle.raft_engine.specs.Rewriting.{IsBatchMoving}
use Rattle.raft_engine.specs.Stored.{AreKeptStored, Bases}
use Rattle.raft_engine.specs.StoredAsks.{IsWritableBatch}

-- a read leaves what is stored
abbrev pub ReadsAreStored : Type 0
ReadsAreStored =
    (queue : LogQueue) (place : FileBlockHandle) (bytes : List ℕ) (version : Version) (asks : List Ask) (base : Bases) (untold : List Item) (tables : Tables)
    → AreKeptStored version asks base untold tables → AreKeptStored version (ask queue (Read place bytes) ∷ asks) base untold tables

-- where the append queue is synced and nothing is untold, a batch of the next ones of what of a region's table moves past a gate, or without one, as
-- they were read, may be put behind the rewrite queue's last file, and is stored as the tables that take it by a rewriting
abbrev pub MovedBatchesAreStored : Type 0
MovedBatchesAreStored =
    (version : Version) (old asks : List Ask) (base : Bases) (tables new : Tables) (seq : ℕ) (bytes : List ℕ) (gate : Option ℕ) (left : List EntryIndex) (t : Table) (batch : Batch)
    → AreSynced (acts_on Append asks) → IsLastFile Rewrite asks seq bytes → IsWritableBatch batch
    → finite.get tables t.region_id ≡ Some t → IsBatchMoving gate left t old asks batch
    → after_items (Rewriting gate seq) tables (placed_at (record { queue = Rewrite; seq = seq }) (length bytes) batch) ≡ Some new
    → AreKeptStored version asks base [] tables
    → AreKeptStored version (ask Rewrite (Put (bytes_for (record { id = record { queue = Rewrite; seq = seq }; version = version }) batch)) ∷ asks) base [] new

-- it is stored as some tables once it is put, before the tables take it
abbrev pub PutBatchesAreStored : Type 0
PutBatchesAreStored =
    (version : Version) (old asks : List Ask) (base : Bases) (tables : Tables) (seq : ℕ) (bytes : List ℕ) (gate : Option ℕ) (left : List EntryIndex) (t : Table) (batch : Batch)
    → AreSynced (acts_on Append asks) → IsLastFile Rewrite asks seq bytes → IsWritableBatch batch
    → finite.get tables t.region_id ≡ Some t → AreTableEntries t.entries → IsBatchMoving gate left t old asks batch
    → AreKeptStored version asks base [] tables
    → (new : Tables) × AreKeptStored version (ask Rewrite (Put (bytes_for (record { id = record { queue = Rewrite; seq = seq }; version = version }) batch)) ∷ asks) base [] new
