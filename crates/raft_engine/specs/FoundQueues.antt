-- The found files of a queue, and what they are once what is missing of them was asked.
use Rattle.std.specs.Prelude.{◌≡◌, ◌↔◌, ◌<◌, ◌^◌, List, [], ◌∷◌, ◌++◌}
use Rattle.raft_base.specs.declared.pipe_log.LogQueue.{LogQueue}
use Rattle.raft_base.specs.declared.pipe_log.Version.{Version}
use Rattle.raft_records.specs.FilePart.{Part}
use Rattle.raft_files.specs.Asks.{NumberedBytes}
use Rattle.raft_files.specs.Disk.{cut_last}
use Rattle.raft_recover.specs.Files.{AreWholeFiles, whole_file}
use Rattle.raft_engine_prefixes.specs.Done.{AreConsecutive, numbers}
use Rattle.raft_engine.specs.CutTails.{IsTailTold, tail_of}
use Rattle.raft_engine.specs.FoundFiles.{AreAccepted, AreReadyBy}
use Rattle.raft_engine.specs.OpeningAsks.{missing_asks}
use Rattle.raft_engine.specs.QueueFilesOf.{AreOf}
use Rattle.raft_engine.specs.declared.found_queue.FoundQueue.{FoundQueue}
use Rattle.raft_engine.specs.declared.found_queue.ReadyQueue.{ReadyQueue}
use Rattle.raft_engine.specs.declared.missing.Missing.{Missing}
use Rattle.raft_engine.specs.declared.missing.Missing.TheVariants.{Nothing, FirstFile, Cut}
use Rattle.raft_engine.specs.declared.queue_files.QueueFiles.{QueueFiles}
use Rattle.raft_engine.specs.declared.recovery_mode.RecoveryMode.{RecoveryMode}

-- the files that a queue has once what is missing of its found files was asked
abbrev pub left_by : Missing → List NumberedBytes → List NumberedBytes
left_by Nothing files = files
left_by FirstFile files = (1, []) ∷ []
left_by (Cut tail) files = cut_last tail.offset files

-- what is known of a queue's files then
abbrev pub known_with : Missing → QueueFiles → QueueFiles
known_with (Cut tail) known = record known { len = tail.offset }
known_with _ known = known

-- these files, or the first one of a queue that has none
abbrev pub begun_or_first : List NumberedBytes → List NumberedBytes
begun_or_first [] = (1, []) ∷ []
begun_or_first (file ∷ files) = file ∷ files

-- these are the found files of a queue, whose numbers are consecutive, with what is known of them
pub record IsFoundQueue (queue : LogQueue) (version : Version) (files : List NumberedBytes) (found : FoundQueue) : Type 0 where
  pub consecutive : AreConsecutive (numbers files)
  pub whole : AreWholeFiles queue version files found.segments.items
  pub known : AreOf (begun_or_first files) found.known
  pub room : found.known.len < 2 ^ 63

-- a part is the last of these files
pub record IsLastOf (queue : LogQueue) (version : Version) (files : List NumberedBytes) (part : Part) : Type 0 where
  pub closed : List NumberedBytes
  pub last : NumberedBytes
  pub split : files ≡ closed ++ last ∷ []
  pub is : part ≡ whole_file queue version last

-- this is missing of the found files of a queue, which a mode accepts
pub record IsMissingOf (mode : RecoveryMode) (queue : LogQueue) (version : Version) (files : List NumberedBytes) (missing : Missing) : Type 0 where
  pub accepted : AreAccepted mode queue version files
  pub ready : AreReadyBy queue version (missing_asks queue missing) files (left_by missing files)
  pub told : IsTailTold queue version files (tail_of missing)
  pub first : (missing ≡ FirstFile) ↔ (files ≡ [])

-- the same, with the files and what is known of those that are there once it was asked
pub record IsReadyQueue (mode : RecoveryMode) (queue : LogQueue) (version : Version) (files : List NumberedBytes) (r : ReadyQueue) : Type 0 where
  pub missing : IsMissingOf mode queue version files r.missing
  pub known : AreOf (left_by r.missing files) r.known
  pub room : r.known.len < 2 ^ 63
