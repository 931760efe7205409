-- What is done to a queue, by what is asked of its files and by the batches that it has.
use Rattle.std.specs.Prelude.{◌≡◌, ◌≢◌, ℕ, zero, suc, ◌-◌, ◌<◌, ◌≤◌, ◌^◌, List, [], ◌∷◌, ◌++◌, length, map}
use Rattle.raft_base.specs.Signature.{signature_in}
use Rattle.raft_base.specs.declared.entry_index.EntryIndex.{EntryIndex}
use Rattle.raft_base.specs.declared.pipe_log.FileBlockHandle.{FileBlockHandle}
use Rattle.raft_base.specs.declared.pipe_log.LogQueue.{LogQueue}
use Rattle.raft_base.specs.declared.pipe_log.LogQueue.TheVariants.{Append, Rewrite}
use Rattle.raft_base.specs.declared.pipe_log.Version.{Version}
use Rattle.raft_records.specs.Item.{Item, AreInBytes}
use Rattle.raft_records.specs.LogBatch.{IsBatchOf, encoded_length, log_batch_bytes}
use Rattle.raft_records.specs.Range.{AreInRange}
use Rattle.raft_history.specs.Batches.{Event}
use Rattle.raft_history.specs.BothQueues.{IsReadingOfBoth}
use Rattle.raft_history.specs.Histories.{AreInFile, HaveStatus, Apart, IsSoundIn}
use Rattle.raft_history.specs.RegionSteps.{Tables}
use Rattle.raft_files.specs.Asks.{Act, Put}
use Rattle.raft_files.specs.Disk.{NumberedBytes, begun, deletions, synced_deletions}
use Rattle.raft_replay.specs.WrittenParts.{written_event}
use Rattle.raft_recover.specs.Files.{FilesHold, whole_file}
use Rattle.raft_engine_laws.specs.Records.{Records, live, HaveRecords}
use Rattle.raft_engine_laws.specs.Crashes.{Deed, Write, written, synced, deleted, synced_deleted, in_files_from, IsLeft, IsNextIn}
use Rattle.raft_engine_prefixes.specs.TornTails.{FilesHoldTorn, NoneIsDamaged}
use Rattle.raft_engine_prefixes.specs.Prefixes.{ArePut}

-- the numbers of files
abbrev pub numbers : List NumberedBytes → List ℕ
numbers files = map (λ file. file.0) files

-- the numbers rise, from this one on
abbrev pub AreRisingFrom : ℕ → List ℕ → Type 0
AreRisingFrom n [] = Unit {0}
AreRisingFrom n (m ∷ ms) = (n ≤ m) × AreRisingFrom (suc m) ms

-- each number is one above that before it
abbrev pub AreConsecutive : List ℕ → Type 0
AreConsecutive [] = Unit {0}
AreConsecutive (m ∷ []) = Unit {0}
AreConsecutive (m ∷ n ∷ ms) = (n ≡ suc m) × AreConsecutive (n ∷ ms)

-- a number is one above that of the last file, if there is one
abbrev pub Follows : ℕ → List NumberedBytes → Type 0
Follows seq [] = Unit {0}
Follows seq (file ∷ []) = seq ≡ suc file.0
Follows seq (file ∷ next ∷ files) = Follows seq (next ∷ files)

-- of these rising numbers just the first ones, so many, are below a number
abbrev pub AreBelow : ℕ → ℕ → List ℕ → Type 0
AreBelow n count [] = Unit {0}
AreBelow n zero (m ∷ ms) = n ≤ m
AreBelow n (suc count) (m ∷ ms) = (m < n) × AreBelow n count ms

-- What was asked of the files of a queue does these deeds. It puts the batches that were written, without those of files
-- below a number, which were gone when the machine started. The files' numbers are consecutive, and none is below that one; the last file is
-- never deleted, and the deleted files are those below the number that the deeds name. Where the found files aren't damaged, no crash leaves damage.
pub record AreDone (queue : LogQueue) (version : Version) (acts : List Act) (deeds : List Deed) : Type 0 where
  pub first : ℕ
  pub begins : first ≤ synced_deleted deeds
  pub put : ArePut queue version acts (in_files_from first (synced deeds)) (in_files_from first (written deeds))
  pub rising : AreRisingFrom first (numbers (begun acts))
  pub consecutive : AreConsecutive (numbers (begun acts))
  pub stays : deletions acts ≤ length (begun acts) - 1
  pub gone : AreBelow (deleted deeds) (deletions acts) (numbers (begun acts))
  pub synced_gone : AreBelow (synced_deleted deeds) (synced_deletions acts) (numbers (begun acts))
  pub undamaged : NoneIsDamaged queue version acts

-- the same, and the files end where these batches do
pub record AreDoneWhole (queue : LogQueue) (version : Version) (acts : List Act) (deeds : List Deed) : Type 0 where
  pub done : AreDone queue version acts deeds
  pub whole : FilesHold queue version (begun acts) (in_files_from done.first (written deeds))

-- Where the bytes of a written batch that has items are put behind those of the last file, at the place that they were
-- written to, that batch is written to the queue.
abbrev pub WrittenBatchIsDone : Type 0
WrittenBatchIsDone =
    (queue : LogQueue) (version : Version) (acts : List Act) (deeds : List Deed) (closed : List NumberedBytes) (last : NumberedBytes)
    (handle : FileBlockHandle) (items : List Item) (entry_bytes : List ℕ)
    → IsBatchOf items entry_bytes → AreInRange items → AreInBytes items → items ≢ [] → encoded_length items entry_bytes < 2 ^ 56
    → handle.id ≡ record { queue = queue; seq = last.0 } → handle.offset ≡ length last.1
    → begun acts ≡ closed ++ last ∷ [] → AreDoneWhole queue version acts deeds
    → AreDoneWhole queue version (Put (log_batch_bytes (signature_in version last.0) items entry_bytes) ∷ acts)
    (Write (written_event (whole_file queue version last) handle items entry_bytes) ∷ deeds)

-- a batch whose items may stand in the last file may be written next to the queue
abbrev pub LastFileIsNext : Type 0
LastFileIsNext =
    (queue : LogQueue) (version : Version) (acts : List Act) (deeds : List Deed) (closed : List NumberedBytes) (last : NumberedBytes) (e : Event)
    → AreDoneWhole queue version acts deeds → begun acts ≡ closed ++ last ∷ [] → e.file ≡ record { queue = queue; seq = last.0 }
    → AreInFile e.file e.items → HaveStatus queue e.items → IsNextIn queue deeds e

-- the files hold batches that may be left of a queue, but for a torn tail; their numbers are consecutive, and none of them is below the number of the files that are gone
pub record HoldLeft (queue : LogQueue) (version : Version) (deeds : List Deed) (files : List NumberedBytes) : Type 0 where
  pub standing : List Event
  pub left : List Event
  pub is_left : IsLeft deeds standing left
  pub rising : AreRisingFrom is_left.gone (numbers files)
  pub consecutive : AreConsecutive (numbers files)
  pub held : FilesHoldTorn queue version files left

-- what is left of the files of both queues holds batches that can be read, and whatever tables a reading of them gives have the records that the batches which stand of the append queue make, from those that there were before
pub record HoldRecords (content : EntryIndex → List ℕ) (base : ℕ → Records) (version : Version) (appended rewritten : List Deed) (append_files rewrite_files : List NumberedBytes) : Type 0 where
  pub append : HoldLeft Append version appended append_files
  pub rewrite : HoldLeft Rewrite version rewritten rewrite_files
  pub readable : IsSoundIn Append append.left × IsSoundIn Rewrite rewrite.left × Apart rewrite.left
  pub found : (tables : Tables) (cleaned : List ℕ) → IsReadingOfBoth rewrite.left append.left tables cleaned → HaveRecords content tables (live content base append.standing)
