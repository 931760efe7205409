-- What was written is what is recovered.
use Rattle.std.specs.Prelude.{◌≡◌, ◌⊎◌, ◌↔◌, ◌<◌, ◌^◌, true, List, [], Vec}
use Rattle.std.specs.Global.{Global}
use Rattle.raft_base.specs.declared.pipe_log.LogQueue.{LogQueue}
use Rattle.raft_base.specs.declared.pipe_log.LogQueue.TheVariants.{Append, Rewrite}
use Rattle.raft_base.specs.declared.pipe_log.Version.{Version}
use Rattle.raft_records.specs.FilePart.{Part}
use Rattle.raft_table.specs.Counts.{live}
use Rattle.raft_history.specs.Batches.{Event}
use Rattle.raft_history.specs.Histories.{IsOneReading}
use Rattle.raft_accessor.specs.Accessor.{Accessor, AreCountsOf}
use Rattle.raft_contexts.specs.MovedPlaces.{AreMovedTables}
use Rattle.raft_files.specs.Asks.{NumberedBytes, acts_on}
use Rattle.raft_files.specs.Disk.{IsLeftOf, begun, deletions, files_of}
use Rattle.raft_replay.specs.Segments.{CannotBeRead, SegmentsHold}
use Rattle.raft_recover.specs.Files.{FilesHold, bytes_of_files}
use Rattle.raft_recover.specs.Recovery.{AreBothRecovered, IsRecovered}
use Rattle.raft_engine_prefixes.specs.Prefixes.{ArePutWhole, IsPrefixWith}
use Rattle.raft_engine_prefixes.specs.TornTails.{FilesHoldTorn}
use Rattle.raft_engine.specs.KeptEngine.{KeptEngine}
use Rattle.raft_engine.specs.Lasting.{before_sync}
use Rattle.raft_engine.specs.Opened.{IsOpened}
use Rattle.raft_engine.specs.ReadBack.{IsReadBack, NoneFound, NothingMoved}
use Rattle.raft_engine.specs.Restarts.{AreSegmentsOf}

-- ---- what is read

-- segments that are cut from files, however: the same batches are read of them
abbrev pub AreCutFromFiles : LogQueue → Version → List NumberedBytes → List (Vec Part Global) → Type 0
AreCutFromFiles queue version files segments = (h : List Event) → FilesHold queue version files h ↔ SegmentsHold segments h

-- segments that are cut from files of fewer than 2^63 bytes; or from the same without their torn tail
abbrev pub AreReadOf : LogQueue → Version → List NumberedBytes → List (Vec Part Global) → Type 0
AreReadOf queue version files segments = (AreCutFromFiles queue version files segments × (bytes_of_files files < 2 ^ 63)) ⊎ AreSegmentsOf queue version files segments

-- What is found in these files of both queues is so: by every recovery of the append files; and if the rewrite files hold no
-- batch, by every recovery of both queues, and by every engine that is opened over them (whose counts are exact, as they always are).
pub record IsFoundIn (version : Version) (append rewrite : List NumberedBytes) (IsSo : Accessor → Type 0) : Type 0 where
  pub appended : (segments : List (Vec Part Global)) → AreReadOf Append version append segments → (recovered : Accessor) → IsRecovered Append (SegmentsHold segments) recovered → IsSo recovered
  pub both : FilesHoldTorn Rewrite version rewrite [] → (appended rewritten : List (Vec Part Global)) → AreReadOf Append version append appended → AreReadOf Rewrite version rewrite rewritten
      → (recovered : Accessor) → AreBothRecovered (SegmentsHold rewritten) (SegmentsHold appended) recovered → IsSo recovered
  pub opened : FilesHoldTorn Rewrite version rewrite [] → (engine : KeptEngine) → IsOpened version append rewrite engine → AreCountsOf engine.accessor.tables engine.accessor.counts → IsSo engine.accessor

-- ---- what it is

-- exactly what one reading of these batches gives: tables, with their places, and cleaned regions; and the live counts of the tables
pub record IsReadingOf (batches : List Event) (found : Accessor) : Type 0 where
  pub reading : IsOneReading Append batches found.tables found.cleaned
  pub exact_counts : AreCountsOf found.tables found.counts

-- what an engine keeps: its cleaned regions, and its tables, but for places, spans and compressions of entries and files of key values that moved to the rewrite queue; if no record moved, its very tables, and its live counts
pub record IsRecoveredAs (engine : KeptEngine) (found : Accessor) : Type 0 where
  pub moved : AreMovedTables engine.accessor.tables found.tables
  pub cleaned : found.cleaned ≡ engine.accessor.cleaned
  pub tables : NothingMoved engine.version engine.asks → found.tables ≡ engine.accessor.tables
  pub live_counts : NothingMoved engine.version engine.asks → (q : LogQueue) → live q found.counts ≡ live q engine.accessor.counts

-- ---- of an engine

-- the append files have all that an engine has: it is intact, none of them was deleted, and rewrite files that were found held no batch
pub record HasAllAppended (engine : KeptEngine) : Type 0 where
  pub intact : engine.intact ≡ true
  pub none_deleted : deletions (acts_on Append engine.asks) ≡ 0
  pub none_found : NoneFound Rewrite engine.version engine.asks

-- What is found of an engine whose append files have all that it has: in its files, which can be read, what it keeps; and in those that
-- are left if the machine crashes now, what one reading gives of a prefix of the batches that its append files hold, with the synced ones
-- at least.
pub record IsRoundTrip (engine : KeptEngine) : Type 0 where
  pub batches : List Event
  pub synced : List Event
  pub batches_held : FilesHold Append engine.version (files_of Append engine.asks) batches
  pub synced_held : FilesHoldTorn Append engine.version (begun (before_sync (acts_on Append engine.asks))) synced
  pub readable : (segments : List (Vec Part Global)) → AreCutFromFiles Append engine.version (files_of Append engine.asks) segments → bytes_of_files (files_of Append engine.asks) < 2 ^ 63
      → ¬ (CannotBeRead segments)
  pub whole : IsFoundIn engine.version (files_of Append engine.asks) (files_of Rewrite engine.asks) (IsRecoveredAs engine)
  pub left : (append rewrite : List NumberedBytes) → IsLeftOf Append engine.asks append → IsLeftOf Rewrite engine.asks rewrite
      → (standing : List Event) × IsPrefixWith synced batches standing × IsFoundIn engine.version append rewrite (IsReadingOf standing)

-- so it is of one whose tables are read back of the append files, where these batches were put
abbrev pub ReadBackIsRoundTrip : Type 0
ReadBackIsRoundTrip =
    (engine : KeptEngine) (synced batches : List Event) → HasAllAppended engine → ArePutWhole Append engine.version (acts_on Append engine.asks) synced batches
    → IsReadBack engine.version engine.asks engine.accessor → AreCountsOf engine.accessor.tables engine.accessor.counts → IsRoundTrip engine
