-- One batch more in an engine.
use Rattle.std.specs.Prelude.{◌≡◌, ◌≢◌, ◌⊎◌, ℕ, ◌+◌, ◌-◌, ◌<◌, ◌≤◌, ◌^◌, Bool, true, false, List, ◌∷◌, length, [], ◌++◌}
use Rattle.raft_base.specs.Signature.{signature_of}
use Rattle.raft_base.specs.declared.errors.Error.{Error}
use Rattle.raft_base.specs.declared.errors.Error.TheVariants as errors
use Rattle.raft_base.specs.declared.pipe_log.LogFileContext.{LogFileContext}
use Rattle.raft_base.specs.declared.pipe_log.LogQueue.{LogQueue}
use Rattle.raft_base.specs.declared.pipe_log.LogQueue.TheVariants.{Append}
use Rattle.raft_records.specs.Item.{Item}
use Rattle.raft_records.specs.LogBatch.{Batch, encoded_length, sealed}
use Rattle.raft_history.specs.Batches.{Event}
use Rattle.raft_accessor.specs.Accessor.{Accessor}
use Rattle.raft_accessor.specs.AppendChecks.{AreAcceptedOncePlaced, AreRefusedOncePlaced}
use Rattle.raft_accessor.specs.Writes.{Appending, AreItemsRefused, AreWritten, Writing}
use Rattle.raft_files.specs.Asks.{Ask, Begin, Put, Sync, acts_on, ask}
use Rattle.raft_files.specs.Disk.{begun}
use Rattle.raft_recover.specs.Files.{FilesHold}
use Rattle.raft_engine_laws.specs.Telling.{taking_items, told_items}
use Rattle.raft_engine.specs.BatchBytes.{bytes_for, event_at, placed_at, put_asks}
use Rattle.raft_engine.specs.Broken.{IsBroken}
use Rattle.raft_engine.specs.FileFailures.{Failures}
use Rattle.raft_engine.specs.KeptEngine.{IsLastFile, KeptEngine}

-- a file of a queue
abbrev pub file_of : LogQueue → KeptEngine → ℕ → LogFileContext
file_of queue engine seq = record { id = record { queue = queue; seq = seq }; version = engine.version }

-- a sync of the append queue is asked too, if it is wanted
abbrev pub synced_if : Bool → List Ask → List Ask
synced_if true asks = ask Append Sync ∷ asks
synced_if false asks = asks

-- only a sync of the append queue is asked, if it is wanted
abbrev pub IsOnlySynced : Bool → KeptEngine → KeptEngine → Type 0
IsOnlySynced sync old new = new ≡ record old { asks = synced_if sync old.asks }

-- a sync fails: the engine isn't intact, and stays as it is; or its files fail to sync the append queue
abbrev pub IsUnsynced : Failures → KeptEngine → KeptEngine → Error → Type 0
IsUnsynced MayFail old new e = ((new ≡ old) × (old.intact ≡ false) × (e ≡ errors.Failed)) ⊎ IsBroken MayFail (ask Append Sync ∷ []) old new e

-- one batch more is written: its bytes, signed for the last file, are put behind those that it has, and synced, if that is
-- wanted, so that the append files, which held batches and no torn tail, hold it behind these; its items, with their places there,
-- are written to the tables; what it takes away of the tables is untold; nothing else is asked or changed
pub record IsOneMore (sync : Bool) (batch : Batch) (old new : KeptEngine) : Type 0 where
  pub seq : ℕ
  pub bytes : List ℕ
  pub last : IsLastFile Append old.asks seq bytes
  pub asked : new.asks ≡ synced_if sync (ask Append (Put (bytes_for (file_of Append old seq) batch)) ∷ old.asks)
  pub before : List Event
  pub whole : FilesHold Append old.version (begun (acts_on Append old.asks)) before
  pub held : (h : List Event) → FilesHold Append old.version (begun (acts_on Append old.asks)) h
      → FilesHold Append old.version (begun (acts_on Append new.asks)) (h ++ event_at (file_of Append old seq).id (length bytes) batch ∷ [])
  pub applied : AreWritten Appending (placed_at (file_of Append old seq).id (length bytes) batch) old.accessor new.accessor
  pub untold : new.untold ≡ record old.untold { items = old.untold.items ++ told_items (taking_items old.accessor.tables batch.items) }
  pub others : new ≡ record old { asks = new.asks; untold = new.untold; accessor = new.accessor }

-- of these items the first ones are tried so, one after another, until the tables refuse one with this error: those in front of it are written, and nothing else
pub record IsNextRefused (w : Writing) (items : List Item) (old new : Accessor) (e : Error) : Type 0 where
  pub tried : List Item
  pub rest : List Item
  pub split : items ≡ tried ++ rest
  pub refused : AreItemsRefused w tried old new e

-- the error is `Memory`, or `Full`: no room in the counts
abbrev pub LacksRoom : Error → Type 0
LacksRoom e = (e ≡ errors.Memory) ⊎ (e ≡ errors.Full)

-- a batch takes something away of the tables, and that isn't noted
abbrev pub IsUnnoted : Batch → KeptEngine → KeptEngine → Type 0
IsUnnoted batch old new = (told_items (taking_items old.accessor.tables batch.items) ≢ []) × (new.untold ≡ old.untold)

-- the first ones of a batch's items, with their places, are written to the tables, and the next one isn't for want of room; or all are, and there is no memory to note what they take away
abbrev pub AreCutShort : Batch → List Item → KeptEngine → KeptEngine → Error → Type 0
AreCutShort batch items old new e = (LacksRoom e × IsNextRefused Appending items old.accessor new.accessor e)
    ⊎ ((e ≡ errors.Memory) × AreWritten Appending items old.accessor new.accessor × IsUnnoted batch old new)

-- a batch is put, and synced if that is wanted, and the writing of its items, with their places behind so many bytes of a file, to the tables of an intact engine is
-- cut short: it isn't intact any more; nothing else is asked or changed
pub record IsCutShort (sync : Bool) (batch : Batch) (seq offset : ℕ) (old new : KeptEngine) (e : Error) : Type 0 where
  pub was : old.intact ≡ true
  pub some : batch.items ≢ []
  pub asked : new.asks ≡ synced_if sync (put_asks (file_of Append old seq) batch) ++ old.asks
  pub cut : AreCutShort batch (placed_at (file_of Append old seq).id offset batch) old new e
  pub others : new ≡ record old { asks = new.asks; accessor = new.accessor; intact = false }

-- a batch that the tables would take breaks the engine: the files fail, to put it, if it has items, or to sync, if that is wanted; or it is cut short behind the last file's bytes
pub record IsHalfWritten (MayFail : Failures) (sync : Bool) (batch : Batch) (old new : KeptEngine) (e : Error) : Type 0 where
  pub seq : ℕ
  pub bytes : List ℕ
  pub last : IsLastFile Append old.asks seq bytes
  pub accepted : AreAcceptedOncePlaced old.accessor.tables batch.items
  pub why : IsBroken MayFail (synced_if sync (put_asks (file_of Append old seq) batch)) old new e ⊎ IsCutShort sync batch seq (length bytes) old new e

-- a queue's last file has more than 2^63 bytes
pub record IsLastFull (queue : LogQueue) (asks : List Ask) : Type 0 where
  pub seq : ℕ
  pub bytes : List ℕ
  pub last : IsLastFile queue asks seq bytes
  pub many : 2 ^ 63 < length bytes

-- why nothing is asked for a batch: the engine isn't intact, the tables would refuse an item, the batch has 2^56 bytes or more or the last file more than 2^63, or there is no memory
abbrev pub IsRefusal : KeptEngine → Batch → Error → Type 0
IsRefusal engine batch errors.Failed = engine.intact ≡ false
IsRefusal engine batch (errors.Corruption text) = (engine.intact ≡ true) × AreRefusedOncePlaced engine.accessor.tables batch.items
IsRefusal engine batch errors.Full = (engine.intact ≡ true) × ((2 ^ 56 ≤ encoded_length batch.items batch.entry_bytes) ⊎ IsLastFull Append engine.asks)
IsRefusal engine batch errors.Memory = engine.intact ≡ true
IsRefusal engine batch _ = ⊥

-- the files fail to put a batch that the tables would take behind the last file's bytes, and take back what they put of it: the engine is
-- as it was, and of the batch this is left, with the items that it had, whose bytes are made for this file
pub record IsTakenBack (MayFail : Failures) (batch left : Batch) (old new : KeptEngine) (e : Error) : Type 0 where
  pub same : new ≡ old
  pub was : old.intact ≡ true
  pub some : batch.items ≢ []
  pub accepted : AreAcceptedOncePlaced old.accessor.tables batch.items
  pub seq : ℕ
  pub bytes : List ℕ
  pub last : IsLastFile Append old.asks seq bytes
  pub made : left ≡ record batch { stage = sealed (signature_of (file_of Append old seq)) }
  pub why : MayFail old.asks (ask Append (Put (bytes_for (file_of Append old seq) batch))) e

-- nothing was asked for one of these reasons, and the engine and the batch, of which this is left, are as they were; or it is half written; or its bytes were taken back
abbrev pub IsUnwritten : Failures → Bool → Batch → Batch → KeptEngine → KeptEngine → Error → Type 0
IsUnwritten MayFail sync batch left old new e =
    ((new ≡ old) × (left ≡ batch) × IsRefusal old batch e) ⊎ IsHalfWritten MayFail sync batch old new e ⊎ IsTakenBack MayFail batch left old new e

-- the append queue is synced, and a new file of the next number is begun; nothing else is asked or changed
pub record IsRotated (old new : KeptEngine) : Type 0 where
  pub seq : ℕ
  pub bytes : List ℕ
  pub last : IsLastFile Append old.asks seq bytes
  pub rotated : new ≡ record old { asks = ask Append (Begin (seq + 1)) ∷ ask Append Sync ∷ old.asks }

-- why nothing is asked for a new file: the engine isn't intact, the last file has the greatest number, or there is no memory
abbrev pub IsRotationRefusal : KeptEngine → Error → Type 0
IsRotationRefusal engine errors.Failed = engine.intact ≡ false
IsRotationRefusal engine errors.Full = (engine.intact ≡ true) × ((bytes : List ℕ) × IsLastFile Append engine.asks (2 ^ 64 - 1) bytes)
IsRotationRefusal engine errors.Memory = engine.intact ≡ true
IsRotationRefusal engine _ = ⊥

-- newest first: a queue is synced, and a file of the number next to this one is begun in it
abbrev pub next_asks : LogQueue → ℕ → List Ask
next_asks queue seq = ask queue (Begin (seq + 1)) ∷ ask queue Sync ∷ []

-- the files fail to sync a queue, or to begin the file behind its last one
pub record IsHalfRotated (MayFail : Failures) (queue : LogQueue) (old new : KeptEngine) (e : Error) : Type 0 where
  pub seq : ℕ
  pub bytes : List ℕ
  pub last : IsLastFile queue old.asks seq bytes
  pub broken : IsBroken MayFail (next_asks queue seq) old new e

-- nothing was asked for one of these reasons, and the engine is as it was; or it is half done
abbrev pub IsUnrotated : Failures → KeptEngine → KeptEngine → Error → Type 0
IsUnrotated MayFail old new e = ((new ≡ old) × IsRotationRefusal old e) ⊎ IsHalfRotated MayFail Append old new e
