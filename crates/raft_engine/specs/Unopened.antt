-- Why found files aren't opened, and what lasts of them then.
use Rattle.std.specs.Prelude.{◌≡◌, ◌≢◌, ◌⊎◌, ℕ, ◌<◌, ◌≤◌, ◌^◌, List, length, map}
use Rattle.raft_base.specs.Errors.{IsInvalidArgument}
use Rattle.raft_base.specs.declared.errors.Error.{Error}
use Rattle.raft_base.specs.declared.errors.Error.TheVariants as errors
use Rattle.raft_base.specs.declared.pipe_log.LogQueue.{LogQueue}
use Rattle.raft_base.specs.declared.pipe_log.LogQueue.TheVariants.{Append, Rewrite}
use Rattle.raft_base.specs.declared.pipe_log.Version.{Version}
use Rattle.raft_records.specs.LogBatch.{Batch, encoded_length}
use Rattle.raft_history.specs.Histories.{Sound}
use Rattle.raft_accessor.specs.Accessor.{Accessor}
use Rattle.raft_files.specs.Asks.{Ask, NumberedBytes}
use Rattle.raft_replay.specs.Stops.{IsNothing, StopsAmong}
use Rattle.raft_recover.specs.Files.{FilesHold, bytes_of_files, whole_file}
use Rattle.raft_engine.specs.FoundFiles.{AreAccepted, AreReadyBy, IsFoundFault}
use Rattle.raft_engine.specs.FoundRecords.{HaveEverRecords}
use Rattle.raft_engine.specs.Markers.{AreOutOfRows}
use Rattle.raft_engine.specs.Opening.{AreRecovered}
use Rattle.raft_engine.specs.OpeningAsks.{AreWanted, Failures, FailsAmong}
use Rattle.raft_engine.specs.Stored.{Bases}
use Rattle.raft_engine.specs.StoredFound.{found_asks}
use Rattle.raft_engine.specs.declared.recovery_mode.RecoveryMode.{RecoveryMode}

-- ---- why

-- the found files of both queues can be made ready in a mode
abbrev pub AreBothAccepted : RecoveryMode → Version → List NumberedBytes → List NumberedBytes → Type 0
AreBothAccepted mode version append rewrite = AreAccepted mode Append version append × AreAccepted mode Rewrite version rewrite

-- so many workers may recover these files
abbrev pub MayRecover : ℕ → List NumberedBytes → List NumberedBytes → Type 0
MayRecover workers append rewrite = (0 < workers) × (workers ≤ 256) × (length append < 2 ^ 62) × (length rewrite < 2 ^ 62)

-- files have 2^63 bytes or more together
abbrev pub AreManyAs : List NumberedBytes → Error → Type 0
AreManyAs files e = (2 ^ 63 ≤ bytes_of_files files) × (e ≡ errors.Full)

-- the reading of a queue's files, one after the other, stops in one of them, at a batch that can't be read or that can't follow those before it; a refusal as corruption says where
abbrev pub StopsInFiles : LogQueue → Version → List NumberedBytes → Error → Type 0
StopsInFiles queue version files e = StopsAmong IsNothing Sound (map (whole_file queue version) files) e

-- why a recovery refuses files that are ready
abbrev pub Refusal : Type 1
Refusal = List NumberedBytes → List NumberedBytes → Error → Type 0

-- of files of fewer than 2^63 bytes the reading of a queue's stops at a batch; or there are too many workers or files, or no worker
pub record AreUnreadableAs (version : Version) (workers : ℕ) (append rewrite : List NumberedBytes) (e : Error) : Type 0 where
  pub few : (bytes_of_files append < 2 ^ 63) × (bytes_of_files rewrite < 2 ^ 63)
  pub stops : MayRecover workers append rewrite → StopsInFiles Append version append e ⊎ StopsInFiles Rewrite version rewrite e
  pub fault : ¬ (MayRecover workers append rewrite) → IsInvalidArgument e

-- in the rewrite files a group doesn't stand in a row
abbrev pub AreUngroupedAs : Version → Refusal
AreUngroupedAs version append rewrite e = AreOutOfRows (FilesHold Rewrite version rewrite) e

-- these can't be read, or in the rewrite files a group doesn't stand in a row
abbrev pub AreUnrecoveredAs : Version → ℕ → Refusal
AreUnrecoveredAs version workers append rewrite e = AreUnreadableAs version workers append rewrite e ⊎ AreUngroupedAs version append rewrite e

-- why no tables are recovered of files that are ready: those of a queue have 2^63 bytes or more, or a recovery refuses them
abbrev pub IsRecoveryFault : Refusal → List NumberedBytes → List NumberedBytes → Error → Type 0
IsRecoveryFault IsRefused append rewrite e = AreManyAs append e ⊎ AreManyAs rewrite e ⊎ IsRefused append rewrite e

-- what the rewrite queue is to be told at once has 2^56 bytes or more
pub record IsTooLongAs (version : Version) (append rewrite : List NumberedBytes) (e : Error) : Type 0 where
  pub accessor : Accessor
  pub told : Batch
  pub untold : Batch
  pub recovered : AreRecovered version append rewrite accessor told untold
  pub long : 2 ^ 56 ≤ encoded_length told.items told.entry_bytes
  pub full : e ≡ errors.Full

-- the found files of both queues can be made ready in a mode, but once they are, no tables are recovered of them, or there is too much to tell
pub record IsReadingFault (IsRefused : Refusal) (mode : RecoveryMode) (version : Version) (append rewrite : List NumberedBytes) (e : Error) : Type 0 where
  pub accepted : AreBothAccepted mode version append rewrite
  pub append_missing : List Ask
  pub rewrite_missing : List Ask
  pub append_left : List NumberedBytes
  pub rewrite_left : List NumberedBytes
  pub append_ready : AreReadyBy Append version append_missing append append_left
  pub rewrite_ready : AreReadyBy Rewrite version rewrite_missing rewrite rewrite_left
  pub fault : IsRecoveryFault IsRefused append_left rewrite_left e ⊎ IsTooLongAs version append_left rewrite_left e

-- why nothing is asked of found files: those of a queue can't be made ready, or there is a fault of their reading; or there is no memory
abbrev pub IsOpeningRefusal : Refusal → RecoveryMode → Version → List NumberedBytes → List NumberedBytes → Error → Type 0
IsOpeningRefusal IsRefused mode version append rewrite e =
    e ≢ errors.Memory
    → IsFoundFault mode Append version append e ⊎ IsFoundFault mode Rewrite version rewrite e ⊎ IsReadingFault IsRefused mode version append rewrite e

-- ---- what lasts

-- Of what an opening asks of found files all was asked that is older than one ask, whose call failed with this error. Whatever is left
-- of the files, now and at each moment since they were found, has the same records.
pub record IsHalfOpened (MayFail : Failures) (version : Version) (append rewrite : List NumberedBytes) (asks : List Ask) (e : Error) : Type 0 where
  pub accessor : Accessor
  pub untold : Batch
  pub wanted : List Ask
  pub are_wanted : AreWanted version append rewrite accessor untold wanted
  pub failed : FailsAmong MayFail wanted (found_asks append rewrite) asks e
  pub records : Bases
  pub ever : HaveEverRecords version asks records

-- nothing was asked of the found files, for one of these reasons; or they can be made ready in the mode, and are half opened
abbrev pub IsUnopened : Refusal → Failures → RecoveryMode → Version → List NumberedBytes → List NumberedBytes → List Ask → Error → Type 0
IsUnopened IsRefused MayFail mode version append rewrite asks e =
    ((asks ≡ found_asks append rewrite) × IsOpeningRefusal IsRefused mode version append rewrite e)
    ⊎ (AreBothAccepted mode version append rewrite × IsHalfOpened MayFail version append rewrite asks e)
