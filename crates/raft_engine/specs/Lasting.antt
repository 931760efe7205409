-- What lasts of an engine, whenever the machine crashes.
use Rattle.std.specs.Prelude.{◌≡◌, ◌≢◌, ◌⊎◌, ℕ, ◌-◌, ◌≤◌, length, true, List, [], ◌∷◌, ◌++◌}
use Rattle.raft_base.specs.declared.entry_index.EntryIndex.{EntryIndex}
use Rattle.raft_base.specs.declared.pipe_log.LogQueue.{LogQueue}
use Rattle.raft_base.specs.declared.pipe_log.LogQueue.TheVariants.{Append, Rewrite}
use Rattle.raft_base.specs.declared.pipe_log.Version.{Version}
use Rattle.raft_history.specs.Batches.{Event}
use Rattle.raft_history.specs.BothQueues.{IsReadingOfBoth}
use Rattle.raft_history.specs.Histories.{Apart, IsSoundIn}
use Rattle.raft_history.specs.RegionSteps.{Tables}
use Rattle.raft_files.specs.Asks.{Act, Ask, Begin, Cut, Delete, Found, IsTrusted, NoSyncFailed, NumberedBytes, Put, Read, Sync, Unsynced, acts_on, ask}
use Rattle.raft_files.specs.Disk.{IsLeftOf, begun, deletions, files_of}
use Rattle.raft_engine_laws.specs.GroupsInRows.{AreGroupsInRows}
use Rattle.raft_engine_laws.specs.Records.{Records, HaveRecords, live}
use Rattle.raft_engine_prefixes.specs.AnyTails.{IsUnforgedLeftOf}
use Rattle.raft_engine_prefixes.specs.Contents.{AreTold, AreToldByFiles}
use Rattle.raft_engine_prefixes.specs.Done.{AreConsecutive, numbers}
use Rattle.raft_engine_prefixes.specs.EntryPlaces.{FilesEndWithin, FoundEndWithin}
use Rattle.raft_engine_prefixes.specs.Prefixes.{ArePut, IsPrefixWith}
use Rattle.raft_engine_prefixes.specs.TornTails.{AreUndamaged, FilesHoldTorn, FoundUndamaged}
use Rattle.raft_engine.specs.CutFiles.{AreCut}
use Rattle.raft_engine.specs.FoundFiles.{IsLastOfOther}
use Rattle.raft_engine.specs.JoinedFiles.{FilesJoin, FoundFilesJoin}
use Rattle.raft_engine.specs.KeptEngine.{KeptEngine}
use Rattle.raft_engine.specs.SoundBlocks.{IsLastSound}

-- in these files of both queues, whose numbers are consecutive, stand batches that can be read, but for a torn tail of each queue, in the rewrite queue each group in a row, and every reading of both queues gives tables with these records
pub record AreFoundIn (content : EntryIndex → List ℕ) (version : Version) (append rewrite : List NumberedBytes) (records : ℕ → Records) : Type 0 where
  pub appended : List Event
  pub rewritten : List Event
  pub append_held : FilesHoldTorn Append version append appended
  pub rewrite_held : FilesHoldTorn Rewrite version rewrite rewritten
  pub append_consecutive : AreConsecutive (numbers append)
  pub rewrite_consecutive : AreConsecutive (numbers rewrite)
  pub append_sound : IsSoundIn Append appended
  pub rewrite_sound : IsSoundIn Rewrite rewritten
  pub apart : Apart rewritten
  pub rows : AreGroupsInRows rewritten
  pub found : (tables : Tables) (cleaned : List ℕ) → IsReadingOfBoth rewritten appended tables cleaned → HaveRecords content tables records

-- whatever is left of the files holds the records of a prefix of these batches, with the synced ones at least, and of what there was before them
abbrev pub IsPrefixFound : (EntryIndex → List ℕ) → Version → (ℕ → Records) → List Ask → List Event → List Event → Type 0
IsPrefixFound content version base asks synced batches =
    (append rewrite : List NumberedBytes) → IsLeftOf Append asks append → IsLeftOf Rewrite asks rewrite
    → (standing : List Event) × IsPrefixWith synced batches standing × AreFoundIn content version append rewrite (live content base standing)

-- The same of a disk that writes in any order, so that any bytes stand behind the synced ones, but none that can be read and
-- weren't written: whatever is read of the files that are left has the records of a prefix of these batches, with the synced ones at
-- least. Files of which nothing is read, as one that is damaged, tell nothing.
abbrev pub IsPrefixReadOfAny : (EntryIndex → List ℕ) → Version → (ℕ → Records) → List Ask → List Event → List Event → Type 0
IsPrefixReadOfAny content version base asks synced batches =
    (append rewrite : List NumberedBytes) → IsUnforgedLeftOf Append version asks append → IsUnforgedLeftOf Rewrite version asks rewrite
    → (appended rewritten : List Event) → FilesHoldTorn Append version append appended → FilesHoldTorn Rewrite version rewrite rewritten
    → (standing : List Event) × IsPrefixWith synced batches standing × AreFoundIn content version append rewrite (live content base standing)

-- what was asked of a queue before its last sync; a file is begun only where all is synced, and what is found is
abbrev pub before_sync : List Act → List Act
before_sync [] = []
before_sync (Sync ∷ earlier) = earlier
before_sync (Begin seq ∷ earlier) = earlier
before_sync (Found files ∷ earlier) = Found files ∷ earlier
before_sync (_ ∷ earlier) = before_sync earlier

-- no bytes were put in a queue since its last sync, or since its last file was begun, or since its files were found
abbrev pub AreSynced : List Act → Type 0
AreSynced [] = Unit {0}
AreSynced (Put bytes ∷ earlier) = ⊥
AreSynced (Begin seq ∷ earlier) = Unit {0}
AreSynced (Sync ∷ earlier) = Unit {0}
AreSynced (Delete ∷ earlier) = AreSynced earlier
AreSynced (Cut len ∷ earlier) = AreSynced earlier
AreSynced (Found files ∷ earlier) = Unit {0}
AreSynced (Read place bytes ∷ earlier) = AreSynced earlier
AreSynced (Unsynced ∷ earlier) = AreSynced earlier

-- What lasts once all this was asked, where these records were there before the batches that are known. The batches that
-- were written are those that the append files hold if nothing is lost, in deleted files too, and the synced ones those
-- that they held at the last sync: all where nothing was put since. They are those that what was asked puts there, and the last
-- append file is never deleted. If the machine crashes now, the files that are left
-- hold the records of a prefix of the batches, with the synced ones at least; and if nothing is lost, those of all batches.
-- Contents that were told by what was asked of a queue are those that its files have, once they are cut where reading stops.
-- The last file of those that are left isn't of the other version, and has sound entry blocks if it is a rewrite file; it isn't damaged,
-- where the found files aren't; and the entries of their batches end within their blocks, where those of the found files do. Where of no
-- region of the found files rewritten entries stay in front of those that are found, so it is of those that are left.
pub record IsLastingAfter (content : EntryIndex → List ℕ) (version : Version) (base : ℕ → Records) (asks : List Ask) : Type 0 where
  pub batches : List Event
  pub synced : List Event
  pub batches_held : FilesHoldTorn Append version (begun (acts_on Append asks)) batches
  pub synced_held : FilesHoldTorn Append version (begun (before_sync (acts_on Append asks))) synced
  pub put : ArePut Append version (acts_on Append asks) synced batches
  pub stays : deletions (acts_on Append asks) ≤ length (begun (acts_on Append asks)) - 1
  pub left : IsPrefixFound content version base asks synced batches
  pub left_any : IsPrefixReadOfAny content version base asks synced batches
  pub told : (queue : LogQueue) → AreTold queue (acts_on queue asks) content → (files cut : List NumberedBytes) → IsLeftOf queue asks files → AreCut queue version files cut
      → AreToldByFiles queue cut content
  pub of_version : (queue : LogQueue) (files : List NumberedBytes) → IsLeftOf queue asks files → ¬ (IsLastOfOther queue version files)
  pub sealed : (queue : LogQueue) (files : List NumberedBytes) → IsLeftOf queue asks files → IsLastSound queue version files
  pub undamaged : (queue : LogQueue) → FoundUndamaged queue version (acts_on queue asks) → (files : List NumberedBytes) → IsLeftOf queue asks files → AreUndamaged queue version files
  pub ends : (queue : LogQueue) → FoundEndWithin queue version (acts_on queue asks) → (files : List NumberedBytes) → IsLeftOf queue asks files → FilesEndWithin queue version files
  pub joined : FoundFilesJoin version asks → (append rewrite : List NumberedBytes) → IsLeftOf Append asks append → IsLeftOf Rewrite asks rewrite → FilesJoin version append rewrite
  pub whole : AreFoundIn content version (files_of Append asks) (files_of Rewrite asks) (live content base batches)
  pub all : AreSynced (acts_on Append asks) → synced ≡ batches

-- in both queues files were begun or found
abbrev pub HaveBothBegun : List Ask → Type 0
HaveBothBegun asks = (acts_on Append asks ≢ []) × (acts_on Rewrite asks ≢ [])

-- what an engine asks before all else: it begins the first file of each queue, or it is opened over files that are found
abbrev pub IsBegunOrFound : List Ask → Type 0
IsBegunOrFound asks =
    ((since : List Ask) × (asks ≡ since ++ ask Rewrite (Begin 1) ∷ ask Append (Begin 1) ∷ []))
    ⊎ ((since : List Ask) × (append : List NumberedBytes) × (rewrite : List NumberedBytes) × (asks ≡ since ++ ask Rewrite (Found rewrite) ∷ ask Append (Found append) ∷ []))

-- What lasts of an engine, now, where an intact one's tables have the records of all batches, and whenever the machine crashes: after each ask, once files were begun or found in both queues. Since a sync
-- failed nothing was asked but reads, so that what is said of a disk may be believed; and of an intact engine none failed.
pub record IsLasting (content : EntryIndex → List ℕ) (engine : KeptEngine) : Type 0 where
  pub first : IsBegunOrFound engine.asks
  pub trusted : IsTrusted engine.asks
  pub unfailed : engine.intact ≡ true → NoSyncFailed engine.asks
  pub base : ℕ → Records
  pub now : IsLastingAfter content engine.version base engine.asks
  pub has : engine.intact ≡ true → HaveRecords content engine.accessor.tables (live content base now.batches)
  pub ever : (later earlier : List Ask) → engine.asks ≡ later ++ earlier → HaveBothBegun earlier → IsLastingAfter content engine.version base earlier
