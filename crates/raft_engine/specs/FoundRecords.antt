-- The records of found files, whenever the machine crashes while they are opened.
use Rattle.std.specs.Prelude.{◌≡◌, ◌≢◌, ℕ, List, [], ◌∷◌, ◌++◌}
use Rattle.raft_base.specs.declared.entry_index.EntryIndex.{EntryIndex}
use Rattle.raft_base.specs.declared.pipe_log.LogQueue.TheVariants.{Append, Rewrite}
use Rattle.raft_base.specs.declared.pipe_log.Version.{Version}
use Rattle.raft_records.specs.LogBatch.{Batch}
use Rattle.raft_accessor.specs.Accessor.{Accessor}
use Rattle.raft_files.specs.Asks.{Ask, NumberedBytes}
use Rattle.raft_files.specs.Disk.{IsLeftOf}
use Rattle.raft_engine.specs.Lasting.{AreFoundIn, HaveBothBegun}
use Rattle.raft_engine.specs.Opening.{AreRecovered}
use Rattle.raft_engine.specs.OpeningAsks.{asks_that_tell}
use Rattle.raft_engine.specs.Stored.{Bases}
use Rattle.raft_engine.specs.StoredAsks.{IsWritableBatch}
use Rattle.raft_engine.specs.StoredFound.{AreReady}

-- whatever is left of the files, if the machine crashes now or stopped after an ask before, once files were begun or found in both queues, has these records, by the contents of entries
abbrev pub HaveEverRecords : Version → List Ask → Bases → Type 0
HaveEverRecords version asks records =
    (content : EntryIndex → List ℕ) (later earlier : List Ask) → asks ≡ later ++ earlier → HaveBothBegun earlier
    → (append rewrite : List NumberedBytes) → IsLeftOf Append earlier append → IsLeftOf Rewrite earlier rewrite → AreFoundIn content version append rewrite (records content)

-- found files that are ready, and of which tables are recovered, have ever the same records, once the rewrite queue is told what it is to be told at once too
abbrev pub FoundRecordsLast : Type 0
FoundRecordsLast =
    (version : Version) (asks : List Ask) (append rewrite append_left rewrite_left : List NumberedBytes) (accessor : Accessor) (told untold : Batch)
    → AreReady version append rewrite append_left rewrite_left asks → AreRecovered version append_left rewrite_left accessor told untold
    → (closed : List NumberedBytes) (seq : ℕ) (bytes : List ℕ) → rewrite_left ≡ closed ++ (seq, bytes) ∷ [] → (told.items ≢ [] → IsWritableBatch told)
    → (records : Bases) × HaveEverRecords version (asks_that_tell version seq told told.items ++ asks) records
