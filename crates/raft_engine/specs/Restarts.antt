-- What is found again of an engine, once it was stopped.
use Rattle.std.specs.Prelude.{◌≡◌, ◌⊎◌, ◌↔◌, ℕ, ◌+◌, ◌<◌, ◌≤◌, ◌^◌, true, List, [], ◌∷◌, ◌++◌, Some, Vec, length}
use Rattle.std.specs.FinMap as finite
use Rattle.std.specs.Global.{Global}
use Rattle.std.specs.List.{AllByRecursion}
use Rattle.raft_base.specs.declared.entry_index.EntryIndex.{EntryIndex}
use Rattle.raft_base.specs.declared.errors.Error.{Error}
use Rattle.raft_base.specs.declared.errors.Error.TheVariants as errors
use Rattle.raft_base.specs.declared.pipe_log.FileBlockHandle.{FileBlockHandle}
use Rattle.raft_base.specs.declared.pipe_log.LogQueue.{LogQueue}
use Rattle.raft_base.specs.declared.pipe_log.LogQueue.TheVariants.{Append, Rewrite}
use Rattle.raft_base.specs.declared.pipe_log.Version.{Version}
use Rattle.raft_records.specs.FilePart.{Part}
use Rattle.raft_records.specs.LogBatch.{Batch}
use Rattle.raft_history.specs.Batches.{Event}
use Rattle.raft_history.specs.BothQueues.{IsReadingOfBoth}
use Rattle.raft_history.specs.RegionSteps.{Tables}
use Rattle.raft_accessor.specs.Accessor.{Accessor}
use Rattle.raft_files.specs.Asks.{Ask, Begin, NumberedBytes, acts_on, ask}
use Rattle.raft_files.specs.Disk.{IsLeftOf, files_of}
use Rattle.raft_files.specs.Places.{bytes_at}
use Rattle.raft_replay.specs.Segments.{CannotBeRead, SegmentsHold}
use Rattle.raft_recover.specs.Files.{FilesCannotBeRead, FilesHold, bytes_of_files, whole_file}
use Rattle.raft_recover.specs.Recovery.{AreBothRecovered}
use Rattle.raft_engine_laws.specs.Records.{Records, HaveRecords, live}
use Rattle.raft_engine_prefixes.specs.AnyTails.{IsUnforgedLeftOf}
use Rattle.raft_engine_prefixes.specs.Contents.{AreBothTold, AreTold, AreToldByFiles}
use Rattle.raft_engine_prefixes.specs.EntryPlaces.{FilesEndWithin}
use Rattle.raft_engine_prefixes.specs.Prefixes.{IsPrefixWith}
use Rattle.raft_engine_prefixes.specs.TornTails.{FilesHoldTorn, FoundUndamaged, StopsAt}
use Rattle.raft_engine.specs.BatchBytes.{event_at}
use Rattle.raft_engine.specs.CutFiles.{AreCut}
use Rattle.raft_engine.specs.FoundFiles.{AreAccepted, IsLastRefused, IsReady}
use Rattle.raft_engine.specs.KeptEngine.{KeptEngine, table_in}
use Rattle.raft_engine.specs.Lasting.{AreSynced, HaveBothBegun, IsBegunOrFound, IsLasting, IsLastingAfter}
use Rattle.raft_engine.specs.Opened.{IsOpened}
use Rattle.raft_engine.specs.Opening.{AreInRows}
use Rattle.raft_engine.specs.StoredFound.{found_asks}
use Rattle.raft_engine.specs.Unopened.{AreBothAccepted, AreUngroupedAs, AreUnrecoveredAs, IsOpeningRefusal, MayRecover}
use Rattle.raft_engine.specs.WrittenBatch.{IsOneMore, file_of}
use Rattle.raft_engine.specs.declared.recovery_mode.RecoveryMode.{RecoveryMode}
use Rattle.raft_engine.specs.declared.recovery_mode.RecoveryMode.TheVariants.{AbsoluteConsistency, TolerateTailCorruption, TolerateTornTail}

-- ---- files that are left, cut and read

-- segments of which the same is read as of the files of a queue, the last one without its torn tail; these have fewer than 2^63 bytes together
pub record AreSegmentsOf (queue : LogQueue) (version : Version) (files : List NumberedBytes) (segments : List (Vec Part Global)) : Type 0 where
  pub cut : List NumberedBytes
  pub are_cut : AreCut queue version files cut
  pub few : bytes_of_files cut < 2 ^ 63
  pub same : (h : List Event) → FilesHold queue version cut h ↔ SegmentsHold segments h

-- Nothing is refused in these files of a queue: they can be made ready in a mode, and once they are, or are cut where reading stops, and have
-- fewer than 2^63 bytes together, they can be read.
pub record AreOpenable (mode : RecoveryMode) (queue : LogQueue) (version : Version) (files : List NumberedBytes) : Type 0 where
  pub accepted : AreAccepted mode queue version files
  pub readable : (asks later : List Ask) (ready : List NumberedBytes) → IsReady queue version asks later files ready → bytes_of_files ready < 2 ^ 63
      → ¬ (FilesCannotBeRead queue version ready)
  pub recoverable : (segments : List (Vec Part Global)) → AreSegmentsOf queue version files segments → ¬ (CannotBeRead segments)

-- once they are ready, these rewrite files hold batches of which each group stands in a row
abbrev pub HaveGroupsInRows : Version → List NumberedBytes → Type 0
HaveGroupsInRows version files = (asks later : List Ask) (ready : List NumberedBytes) → IsReady Rewrite version asks later files ready → AreInRows (FilesHold Rewrite version ready)

-- an opening of these files of both queues in a mode, by so many workers as may recover them, is refused for want of memory alone, or of room
abbrev pub OpeningsSucceed : RecoveryMode → Version → List NumberedBytes → List NumberedBytes → Type 0
OpeningsSucceed mode version append rewrite =
    (workers : ℕ) (e : Error) → MayRecover workers append rewrite → IsOpeningRefusal (AreUnrecoveredAs version workers) mode version append rewrite e
    → (e ≡ errors.Memory) ⊎ (e ≡ errors.Full)

-- so is one over contexts that have read them
abbrev pub OpeningsOverSucceed : RecoveryMode → Version → List NumberedBytes → List NumberedBytes → Type 0
OpeningsOverSucceed mode version append rewrite =
    (e : Error) → IsOpeningRefusal (AreUngroupedAs version) mode version append rewrite e → (e ≡ errors.Memory) ⊎ (e ≡ errors.Full)

-- ---- what a mode refuses

-- a mode refuses the tail of neither queue's last file
abbrev pub AreTailsTolerated : RecoveryMode → Version → List NumberedBytes → List NumberedBytes → Type 0
AreTailsTolerated mode version append rewrite = ¬ (IsLastRefused mode Append version append) × ¬ (IsLastRefused mode Rewrite version rewrite)

-- no files that were found, of either queue, are damaged
abbrev pub BothFoundUndamaged : Version → List Ask → Type 0
BothFoundUndamaged version asks = FoundUndamaged Append version (acts_on Append asks) × FoundUndamaged Rewrite version (acts_on Rewrite asks)

-- Each mode accepts what the one before it does: the one that refuses each tail, the one that refuses damage, and the one that
-- refuses none; and of files of which the last ends with its batches none refuses the tail.
pub record ModesAcceptMore (queue : LogQueue) (version : Version) (files : List NumberedBytes) : Type 0 where
  pub torn : AreAccepted AbsoluteConsistency queue version files → AreAccepted TolerateTornTail queue version files
  pub corrupted : AreAccepted TolerateTornTail queue version files → AreAccepted TolerateTailCorruption queue version files
  pub none : ¬ (IsLastRefused TolerateTailCorruption queue version files)
  pub whole : ((closed : List NumberedBytes) (last : NumberedBytes) → files ≡ closed ++ last ∷ [] → StopsAt (whole_file queue version last) (length last.1))
      → (mode : RecoveryMode) → ¬ (IsLastRefused mode queue version files)

-- the files that an engine found which was opened in the mode that refuses damage aren't damaged
abbrev pub OpenedFoundUndamaged : Type 0
OpenedFoundUndamaged =
    (version : Version) (append rewrite : List NumberedBytes) (engine : KeptEngine) → IsOpened version append rewrite engine
    → AreBothAccepted TolerateTornTail version append rewrite → BothFoundUndamaged version engine.asks

-- ---- what a restart finds

-- what restarts find in these files of both queues is so: the tables of every engine that is opened over them, and of every recovery of both queues
pub record RestartsFind (version : Version) (append rewrite : List NumberedBytes) (AreSo : Tables → Type 0) : Type 0 where
  pub opened : (engine : KeptEngine) → IsOpened version append rewrite engine → AreSo engine.accessor.tables
  pub recovered : (appended rewritten : List (Vec Part Global)) → AreSegmentsOf Append version append appended → AreSegmentsOf Rewrite version rewrite rewritten
      → (accessor : Accessor) → AreBothRecovered (SegmentsHold rewritten) (SegmentsHold appended) accessor → AreSo accessor.tables

-- On a disk that writes in any order, so that any bytes stand behind the synced ones: an engine that is opened over whatever such a
-- disk leaves, of which nothing can be read that wasn't written, has the records of a prefix of these batches, with the synced
-- ones at least, and of what there was before them. Such an opening may be refused, which says nothing of the records.
abbrev pub OpenedHaveSynced : (EntryIndex → List ℕ) → Version → (ℕ → Records) → List Ask → List Event → List Event → Type 0
OpenedHaveSynced content version base asks synced batches =
    (append rewrite : List NumberedBytes) → IsUnforgedLeftOf Append version asks append → IsUnforgedLeftOf Rewrite version asks rewrite
    → (engine : KeptEngine) → IsOpened version append rewrite engine
    → (standing : List Event) × IsPrefixWith synced batches standing × HaveRecords content engine.accessor.tables (live content base standing)

-- What restarts find in the files that the machine leaves if it stops once all this was asked: in whatever is left, all of them
-- the records of the same prefix of these batches, with the synced ones at least, and of what there was before them; and nothing
-- that is refused, so that it can be opened in each mode that refuses no tail of it. The default mode refuses none where the files
-- that were found aren't damaged. If nothing is lost, restarts find the records of all batches. Contents that were told by what was asked of a queue are those
-- that its files have that are left, once they are cut where reading stops.
pub record IsFoundByRestarts (content : EntryIndex → List ℕ) (version : Version) (base : ℕ → Records) (asks : List Ask) (synced batches : List Event) : Type 0 where
  pub left : (append rewrite : List NumberedBytes) → IsLeftOf Append asks append → IsLeftOf Rewrite asks rewrite
      → (standing : List Event) × IsPrefixWith synced batches standing × RestartsFind version append rewrite (λ tables. HaveRecords content tables (live content base standing))
  pub opened_any : OpenedHaveSynced content version base asks synced batches
  pub tolerated : BothFoundUndamaged version asks → (append rewrite : List NumberedBytes) → IsLeftOf Append asks append → IsLeftOf Rewrite asks rewrite
      → AreTailsTolerated TolerateTornTail version append rewrite
  pub accepted : (mode : RecoveryMode) (append rewrite : List NumberedBytes) → IsLeftOf Append asks append → IsLeftOf Rewrite asks rewrite → AreTailsTolerated mode version append rewrite
      → AreOpenable mode Append version append × AreOpenable mode Rewrite version rewrite × HaveGroupsInRows version rewrite
  pub opens : (mode : RecoveryMode) (append rewrite : List NumberedBytes) → IsLeftOf Append asks append → IsLeftOf Rewrite asks rewrite → AreTailsTolerated mode version append rewrite
      → OpeningsSucceed mode version append rewrite
  pub opens_over : (mode : RecoveryMode) (append rewrite : List NumberedBytes) → IsLeftOf Append asks append → IsLeftOf Rewrite asks rewrite → AreTailsTolerated mode version append rewrite
      → OpeningsOverSucceed mode version append rewrite
  pub whole : RestartsFind version (files_of Append asks) (files_of Rewrite asks) (λ tables. HaveRecords content tables (live content base batches))
  pub told : (queue : LogQueue) → AreTold queue (acts_on queue asks) content → (files cut : List NumberedBytes) → IsLeftOf queue asks files → AreCut queue version files cut
      → AreToldByFiles queue cut content

-- The records that there were before the batches of an engine: none where its first files were begun; and where it was opened over
-- found files, those that make, with the batches which the append files held, what every reading of the files gives. One of both is so.
pub record AreFromBefore (content : EntryIndex → List ℕ) (version : Version) (asks : List Ask) (base : ℕ → Records) : Type 0 where
  pub either : IsBegunOrFound asks
  pub none : (since : List Ask) → asks ≡ since ++ ask Rewrite (Begin 1) ∷ ask Append (Begin 1) ∷ [] → HaveRecords content finite.empty base
  pub found : (since : List Ask) (append rewrite : List NumberedBytes) → asks ≡ since ++ found_asks append rewrite
      → (appended rewritten : List Event) → FilesHoldTorn Append version append appended → FilesHoldTorn Rewrite version rewrite rewritten
      → (tables : Tables) (cleaned : List ℕ) → IsReadingOfBoth rewritten appended tables cleaned → HaveRecords content tables (live content base appended)

-- an entry's bytes stand at its place in these files of a queue, once the last one is cut where reading stops
pub record StandsInCut (queue : LogQueue) (version : Version) (files : List NumberedBytes) (e : EntryIndex) : Type 0 where
  pub cut : List NumberedBytes
  pub are_cut : AreCut queue version files cut
  pub place : FileBlockHandle
  pub of_queue : place.id.queue ≡ queue
  pub placed : e.entries ≡ Some place
  pub block : List ℕ
  pub stands : bytes_at cut place.id.seq place.offset place.len ≡ Some block
  pub inside : e.entry_offset + e.entry_len ≤ length block

-- Contents that are told by what was asked of an engine once it was opened, in the same version, over what a crash left of another one are those of the other
-- one, for each entry whose bytes stand in what was left.
abbrev pub FoundContentsStay : Type 0
FoundContentsStay =
    (content : EntryIndex → List ℕ) (version : Version) (base : ℕ → Records) (asks : List Ask) → IsLastingAfter content version base asks → AreBothTold asks content
    → (append rewrite : List NumberedBytes) → IsLeftOf Append asks append → IsLeftOf Rewrite asks rewrite
    → (engine : KeptEngine) → IsOpened version append rewrite engine → (other : EntryIndex → List ℕ) → AreBothTold engine.asks other
    → (e : EntryIndex) → StandsInCut Append version append e ⊎ StandsInCut Rewrite version rewrite e → other e ≡ content e

-- So are, where the entries of all batches that were found end within their blocks, the contents of each entry that the opened engine has.
abbrev pub FoundEntriesStay : Type 0
FoundEntriesStay =
    (content : EntryIndex → List ℕ) (version : Version) (base : ℕ → Records) (asks : List Ask) → IsLastingAfter content version base asks → AreBothTold asks content
    → (append rewrite : List NumberedBytes) → IsLeftOf Append asks append → IsLeftOf Rewrite asks rewrite
    → FilesEndWithin Append version append → FilesEndWithin Rewrite version rewrite
    → (engine : KeptEngine) → IsOpened version append rewrite engine → (other : EntryIndex → List ℕ) → AreBothTold engine.asks other
    → (region : ℕ) → AllByRecursion (λ (e : EntryIndex). other e ≡ content e) (table_in engine region).entries

-- when a write with a sync returns, its batch is the last of the synced ones, behind all that were written before it
abbrev pub SyncedBatchesLast : Type 0
SyncedBatchesLast =
    (content : EntryIndex → List ℕ) (batch : Batch) (old new : KeptEngine) (more : IsOneMore true batch old new) (before : IsLasting content old) (after : IsLasting content new)
    → after.now.synced ≡ before.now.batches ++ event_at (file_of Append old more.seq).id (length more.bytes) batch ∷ []

-- two tables have the same records: entries with their contents, and key values
pub record HaveSame (content : EntryIndex → List ℕ) (tables others : Tables) : Type 0 where
  pub records : ℕ → Records
  pub have : HaveRecords content tables records
  pub others_have : HaveRecords content others records

-- ---- of an engine

-- What restarts find of an engine, whenever the machine crashes: now, and after each ask before, once files were begun or found in
-- both queues. Where it is intact they find its records: in whatever is left, if nothing was put in the append queue since its
-- last sync, and in all of its files, if nothing is lost.
pub record IsKeptByRestarts (content : EntryIndex → List ℕ) (engine : KeptEngine) : Type 0 where
  pub lasting : IsLasting content engine
  pub before : AreFromBefore content engine.version engine.asks lasting.base
  pub now : IsFoundByRestarts content engine.version lasting.base engine.asks lasting.now.synced lasting.now.batches
  pub ever : (later earlier : List Ask) (split : engine.asks ≡ later ++ earlier) (begun : HaveBothBegun earlier)
      → IsFoundByRestarts content engine.version lasting.base earlier (lasting.ever later earlier split begun).synced (lasting.ever later earlier split begun).batches
  pub same_synced : engine.intact ≡ true → AreSynced (acts_on Append engine.asks)
      → (append rewrite : List NumberedBytes) → IsLeftOf Append engine.asks append → IsLeftOf Rewrite engine.asks rewrite
      → RestartsFind engine.version append rewrite (HaveSame content engine.accessor.tables)
  pub same_whole : engine.intact ≡ true → RestartsFind engine.version (files_of Append engine.asks) (files_of Rewrite engine.asks) (HaveSame content engine.accessor.tables)

-- What an engine that is opened has on a disk that writes in any order, whenever the machine crashes: now, and after each ask before,
-- once files were begun or found in both queues.
pub record IsKeptUnordered (content : EntryIndex → List ℕ) (engine : KeptEngine) : Type 0 where
  pub lasting : IsLasting content engine
  pub now : OpenedHaveSynced content engine.version lasting.base engine.asks lasting.now.synced lasting.now.batches
  pub ever : (later earlier : List Ask) (split : engine.asks ≡ later ++ earlier) (begun : HaveBothBegun earlier)
      → OpenedHaveSynced content engine.version lasting.base earlier (lasting.ever later earlier split begun).synced (lasting.ever later earlier split begun).batches
