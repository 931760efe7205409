-- What is stored of found files.
use Rattle.std.specs.Prelude.{◌≡◌, ℕ, List, [], ◌∷◌, ◌++◌}
use Rattle.raft_base.specs.declared.pipe_log.LogQueue.TheVariants.{Append, Rewrite}
use Rattle.raft_base.specs.declared.pipe_log.Version.{Version}
use Rattle.raft_records.specs.Item.{Item}
use Rattle.raft_records.specs.LogBatch.{Batch}
use Rattle.raft_history.specs.Batches.{Event}
use Rattle.raft_history.specs.RegionSteps.{Tables}
use Rattle.raft_accessor.specs.Accessor.{Accessor}
use Rattle.raft_files.specs.Asks.{Ask, Found, NumberedBytes, Put, Sync, acts_on, ask}
use Rattle.raft_files.specs.Disk.{begun, deletions}
use Rattle.raft_recover.specs.Files.{FilesHold}
use Rattle.raft_engine_prefixes.specs.TornTails.{FilesHoldTorn}
use Rattle.raft_engine.specs.BatchBytes.{bytes_for}
use Rattle.raft_engine.specs.FoundFiles.{IsReady}
use Rattle.raft_engine.specs.Opening.{AreRecovered}
use Rattle.raft_engine.specs.Stored.{AreKeptStored, Bases}
use Rattle.raft_engine.specs.StoredAsks.{IsWritableBatch}

-- these files were found, and nothing else was asked
abbrev pub found_asks : List NumberedBytes → List NumberedBytes → List Ask
found_asks append rewrite = ask Rewrite (Found rewrite) ∷ ask Append (Found append) ∷ []

-- found files of both queues are ready for what is put next, and are these then
pub record AreReady (version : Version) (append rewrite append_left rewrite_left : List NumberedBytes) (asks : List Ask) : Type 0 where
  pub between : List Ask
  pub append_ready : IsReady Append version (found_asks append rewrite) between append append_left
  pub rewrite_ready : IsReady Rewrite version between asks rewrite rewrite_left

-- found files that are ready: those that were found held the same batches, but for a torn tail; the files that were begun are those that are left now, none of them deleted
pub record AreMadeReady (version : Version) (append rewrite append_left rewrite_left : List NumberedBytes) (asks : List Ask) (appended rewritten : List Event) : Type 0 where
  pub append_held : FilesHoldTorn Append version append appended
  pub rewrite_held : FilesHoldTorn Rewrite version rewrite rewritten
  pub append_files : begun (acts_on Append asks) ≡ append_left
  pub rewrite_files : begun (acts_on Rewrite asks) ≡ rewrite_left
  pub append_none : deletions (acts_on Append asks) ≡ 0
  pub rewrite_none : deletions (acts_on Rewrite asks) ≡ 0

-- found files that are made ready are so
abbrev pub FoundFilesAreReady : Type 0
FoundFilesAreReady =
    (version : Version) (asks : List Ask) (append rewrite append_left rewrite_left : List NumberedBytes) (appended rewritten : List Event)
    → AreReady version append rewrite append_left rewrite_left asks → FilesHold Append version append_left appended → FilesHold Rewrite version rewrite_left rewritten
    → AreMadeReady version append rewrite append_left rewrite_left asks appended rewritten

-- these tables are stored, beside some records that there were before, and these items are untold
abbrev pub AreStoredBeside : Version → List Ask → List Item → Tables → Type 0
AreStoredBeside version asks untold tables = (base : Bases) × AreKeptStored version asks base untold tables

-- a batch is put behind those of a rewrite file, and the rewrite queue is synced
abbrev pub told_asks : Version → ℕ → Batch → List Ask → List Ask
told_asks version seq told asks =
    ask Rewrite Sync ∷ ask Rewrite (Put (bytes_for (record { id = record { queue = Rewrite; seq = seq }; version = version }) told)) ∷ asks

-- the tables that a recovery gives of found files are stored by these at once, if the rewrite queue is to be told nothing at once, or else once it is told
abbrev pub FoundFilesAreStored : Type 0
FoundFilesAreStored =
    (version : Version) (asks : List Ask) (append rewrite append_left rewrite_left : List NumberedBytes) (accessor : Accessor) (told untold : Batch)
    → AreReady version append rewrite append_left rewrite_left asks → AreRecovered version append_left rewrite_left accessor told untold
    → (told.items ≡ [] → AreStoredBeside version asks untold.items accessor.tables)
    × ((closed : List NumberedBytes) (seq : ℕ) (bytes : List ℕ) → rewrite_left ≡ closed ++ (seq, bytes) ∷ [] → IsWritableBatch told
    → AreStoredBeside version (told_asks version seq told asks) untold.items accessor.tables)
