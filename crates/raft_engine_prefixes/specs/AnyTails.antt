-- What is read of files on a disk that writes in any order, so that any bytes may stand behind the synced ones.
use Rattle.std.specs.Prelude.{◌≡◌, ℕ, ◌<◌, ◌≤◌, List, [], ◌∷◌, ◌++◌, length, take}
use Rattle.raft_base.specs.declared.pipe_log.LogQueue.{LogQueue}
use Rattle.raft_base.specs.declared.pipe_log.Version.{Version}
use Rattle.raft_records.specs.FilePart.{Part}
use Rattle.raft_history.specs.Batches.{Event}
use Rattle.raft_files.specs.Asks.{Act, Ask, acts_on}
use Rattle.raft_files.specs.Disk.{IsLeftOf, IsLeftUnordered, NumberedBytes, begun, deletions, synced_deletions}
use Rattle.raft_replay.specs.Cuts.{bytes_before}
use Rattle.raft_replay.specs.Segments.{AreHeldInTurn, HoldsFrom}
use Rattle.raft_recover.specs.Files.{FilesHold, whole_file}
use Rattle.raft_engine_prefixes.specs.Prefixes.{AreFirstOf, ArePut}
use Rattle.raft_engine_prefixes.specs.TornTails.{FilesHoldTorn}

-- from a byte of a part on these batches stand, one after the other, and anything may stand behind them
pub record HoldsPrefixFrom (part : Part) (from : ℕ) (h : List Event) : Type 0 where
  pub at : ℕ
  pub inside : at ≤ length part.bytes
  pub held : HoldsFrom (bytes_before part at) from h

-- the batches of files, in order, and behind them anything in the last one
abbrev pub FilesHoldPrefix : LogQueue → Version → List NumberedBytes → List Event → Type 0
FilesHoldPrefix queue version [] h = h ≡ []
FilesHoldPrefix queue version (file ∷ []) h = HoldsPrefixFrom (whole_file queue version file) 0 h
FilesHoldPrefix queue version (file ∷ next ∷ files) h =
    AreHeldInTurn (HoldsFrom (whole_file queue version file) 0) (λ rest. FilesHoldPrefix queue version (next ∷ files) rest) h

-- of files these batches stand first, whatever stands behind them
pub record FilesBeginWith (queue : LogQueue) (version : Version) (files : List NumberedBytes) (h : List Event) : Type 0 where
  pub all : List Event
  pub held : FilesHoldPrefix queue version files all
  pub more : List Event
  pub split : all ≡ h ++ more

-- of the files that are left, and the deleted ones in front of them, the synced batches stand first
pub record BeginWithSynced (queue : LogQueue) (version : Version) (asked : List Ask) (synced : List Event) (files : List NumberedBytes) : Type 0 where
  pub gone : ℕ
  pub at_least : synced_deletions (acts_on queue asked) ≤ gone
  pub at_most : gone ≤ deletions (acts_on queue asked)
  pub deleted : List Event
  pub of_deleted : FilesHold queue version (take gone (begun (acts_on queue asked))) deleted
  pub rest : List Event
  pub held : FilesHoldPrefix queue version files rest
  pub first : AreFirstOf synced (deleted ++ rest)

-- Whatever is read of these files, behind the batches of so many deleted ones, is a prefix of what all files hold if nothing is lost.
-- Checksums don't make sure of that: an older batch that was cut off may be read at its place again.
abbrev pub NoneIsForged : LogQueue → Version → List Act → ℕ → List NumberedBytes → Type 0
NoneIsForged queue version acts gone files =
    (h deleted read : List Event) → FilesHoldTorn queue version (begun acts) h → FilesHold queue version (take gone (begun acts)) deleted → FilesHoldTorn queue version files read
    → (lost : List Event) × (h ≡ (deleted ++ read) ++ lost)

-- the files of a queue that such a disk may leave, of which a prefix of what was put is read
pub record IsUnforgedLeftOf (queue : LogQueue) (version : Version) (asked : List Ask) (files : List NumberedBytes) : Type 0 where
  pub of_disk : IsLeftUnordered queue asked files
  pub unforged : NoneIsForged queue version (acts_on queue asked) of_disk.gone files

-- what a disk leaves that writes in order one may leave that writes in any order, and nothing of it is forged
abbrev pub PrefixesAreUnforged : Type 0
PrefixesAreUnforged =
    (queue : LogQueue) (version : Version) (asked : List Ask) (synced h : List Event) (files : List NumberedBytes) → ArePut queue version (acts_on queue asked) synced h
    → deletions (acts_on queue asked) < length (begun (acts_on queue asked)) → IsLeftOf queue asked files → IsUnforgedLeftOf queue version asked files
